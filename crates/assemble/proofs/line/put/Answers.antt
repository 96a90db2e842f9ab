-- `put` meets its contract: an if and an `else` line with their skip, and every other line by its head.
use Rattle.assemble.proofs.HeadCode.{if-put, else-put, other-put}
use Rattle.assemble.proofs.line.put.Goals as goal

pub returns-in-If : goal.returns-in-If
returns-in-If c = if-put _ _ _ _ _ _ _ _ c.in-If.is (c.put_if.ensures c.args.known.now)

pub returns-in-Else : goal.returns-in-Else
returns-in-Else c = else-put c.args.known.now _ _ _ _ _ _ c.in-Else.is c.put_goto.ensures

pub returns-in_default : goal.returns-in_default
returns-in_default c = other-put _ _ _ _ _ _ _ c.in_default.not-If c.in_default.not-Else c.put_line.ensures
