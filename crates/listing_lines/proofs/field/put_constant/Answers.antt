-- `put_constant` meets its contract: a comma and the number with its sign.
use native.Mathlib.Omega.{arith}
use mir.Facts.{to_z-of_z}
use Rattle.output.proofs.Pour.{then}
use Rattle.listing_lines.proofs.field.put_constant.Goals as goal

pub returns : goal.returns
returns c = then _ _ _ _ _ _ _ c.put_byte-end.ensures (rw (to_z-of_z c.ranges.constant) at c.put_number.ensures) (omega arith)
