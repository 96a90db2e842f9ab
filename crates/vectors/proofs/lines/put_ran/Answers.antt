-- `put_ran` meets its contract: the lent output is written behind the answer's values.
use native.Mathlib.Omega.{arith}
use Rattle.output.proofs.Pour.{then}
use Rattle.vectors.specs.Lines.{ran_line}
use Rattle.vectors.proofs.lines.put_ran.Goals as goal

pub returns : goal.returns
unfolding ran_line
returns c = then _ _ _ _ _ _ _ c.put_ran_values-end.ensures c.put_lent.ensures (omega arith)
