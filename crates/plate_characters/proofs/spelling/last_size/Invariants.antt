-- `last_size` meets its contract. The loop's invariant: the characters passed and those behind them are the whole text.
-- The measure is the bits that are left.
use Prim.Native.Nat.{◌*◌, ◌-◌}
use lib.ListN.{length}
use Rattle.plate_characters.proofs.Characters.{SizeSoFar}
use Rattle.plate_characters.proofs.spelling.last_size.Given as goal

abbrev pub invariant-loop-code : goal.invariant-loop-code
invariant-loop-code l = SizeSoFar l.width l.plate l.at l.size l.bit

abbrev pub decreases-loop-code : goal.decreases-loop-code
decreases-loop-code l = length l.plate * 8 - l.bit
