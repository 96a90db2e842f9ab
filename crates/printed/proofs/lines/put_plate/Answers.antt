-- `put_plate` meets its contract: the three parts of the line are written one behind the other.
use native.Mathlib.Omega.{arith}
use Rattle.output.proofs.Pour.{then}
use Rattle.printed.specs.Lines.{plate_line}
use Rattle.printed.proofs.lines.put_plate.Goals as goal

pub returns : goal.returns
unfolding plate_line
returns c = let one = then _ _ _ _ _ _ _ c.put-end.ensures c.put_pairs-end.ensures (omega arith) in
    (then _ _ _ _ _ _ _ one c.put_byte.ensures (omega arith))
