-- `put_labelled` meets its contract: the number is written behind the label.
use native.Mathlib.Omega.{arith}
use Rattle.output.proofs.Pour.{then}
use Rattle.printed.proofs.lines.put_labelled.Goals as goal

pub returns : goal.returns
returns c = then _ _ _ _ _ _ _ c.put-end.ensures c.put_natural.ensures (omega arith)
