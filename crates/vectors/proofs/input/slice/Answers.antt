-- `slice` meets its contract: the bytes between the length and the end, or none.
use Rattle.std.proofs.Common.{arith, refl}
use Rattle.vectors.proofs.Places.{slice-got}
use Rattle.vectors.proofs.input.slice.Goals as goal

pub returns : goal.returns
returns c = slice-got _ _ _ _ _ _ _ c.saturating_add.ensures c.past_slice.ensures (omega arith) c.get.ensures.lookup.0 c.unwrap_or.ensures refl
