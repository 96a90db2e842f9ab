-- `at_end` meets its contract: no if is open, or the innermost one is.
use Rattle.check_lines.proofs.OpenIfs.{none_open, innermost}
use Rattle.check_lines.proofs.checking.at_end.Goals as goal

pub returns : goal.returns
returns c = λ own e. simp (none_open c.args.opens.now _ c.if-s-ne0.false, e)

pub returns-then-s-ne0 : goal.returns-then-s-ne0
returns-then-s-ne0 c = λ own e. simp (innermost c.args.opens.now _ c.if-s-ne0.true)
