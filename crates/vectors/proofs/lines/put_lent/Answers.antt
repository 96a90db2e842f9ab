-- `put_lent` meets its contract: the comma, the lent output and LF are written one behind the other.
use native.Mathlib.Omega.{arith}
use Rattle.output.proofs.Pour.{then}
use Rattle.vectors.specs.Lines.{lent_end}
use Rattle.vectors.proofs.lines.put_lent.Goals as goal

pub returns : goal.returns
unfolding lent_end
returns c =
    let one = then _ _ _ _ _ _ _ c.put_byte-end.ensures c.put_buffer-end.ensures (omega arith) in
    then _ _ _ _ _ _ _ one c.put_byte.ensures (omega arith)
