-- `cause_of` meets its contract, head by head.
use Rattle.check_lines.proofs.fault.cause_of.Goals as goal

pub returns-in-If : goal.returns-in-If
returns-in-If c = simp c.in-If.is (c.if_fault.ensures c.args.opens.now c.in-If.test)
