-- `put_written` meets its contract: the lent output is written behind the answer's values.
use native.Mathlib.Omega.{arith}
use Rattle.output.proofs.Pour.{then}
use Rattle.vectors.specs.Lines.{written_line}
use Rattle.vectors.proofs.lines.put_written.Goals as goal

pub returns : goal.returns
unfolding written_line
returns c = then _ _ _ _ _ _ _ c.put_written_values-end.ensures c.put_lent.ensures (omega arith)
