-- `put_accepted` meets its contract: the plate's line is written behind the listing.
use native.Mathlib.Omega.{arith}
use Rattle.output.proofs.Pour.{then}
use Rattle.show.proofs.print.put_accepted.Goals as goal

pub returns : goal.returns
returns c = then _ _ _ _ _ _ _ c.put-end.ensures c.put_plate.ensures (omega arith)
