-- `fi_fault` meets its contract: an if is open.
use Rattle.check_lines.proofs.OpenIfs.{none_open, innermost}
use Rattle.check_lines.proofs.fault.fi_fault.Goals as goal

pub returns-then-s-eq0 : goal.returns-then-s-eq0
returns-then-s-eq0 c = λ os. simp (none_open os _ c.if-s-eq0.true)

pub returns-else-s-eq0 : goal.returns-else-s-eq0
returns-else-s-eq0 c = λ os. simp (innermost os _ c.if-s-eq0.false)
