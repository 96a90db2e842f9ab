-- `put_natural` meets its contract: a comma and the digits.
use native.Mathlib.Omega.{arith}
use Rattle.output.proofs.Pour.{then}
use Rattle.listing_lines.proofs.field.put_natural.Goals as goal

pub returns : goal.returns
returns c = then _ _ _ _ _ _ _ c.put_byte-end.ensures c.put_natural.ensures (omega arith)
