-- `read_size` meets its contract. The loops' invariant: the characters passed and those behind them are the whole text. The inner loop also
-- knows the bits that are left of the eight characters. The measure is the bits that are left.
use Prim.Native.Nat.{◌+◌, ◌*◌, ◌-◌}
use mathlib.Core.Path.{◌≡◌}
use lib.ListN.{length}
use Rattle.plate_characters.proofs.Characters.{SizeSoFar}
use Rattle.plate_characters.proofs.Cuts.{Left}
use Rattle.plate_characters.proofs.spelling.read_size.Given as goal

abbrev pub invariant-loop : goal.invariant-loop
invariant-loop l = SizeSoFar 7 l.plate l.at l.size l.bit × Left l.plate l.bit l.left (l.counter * 7) × (l.bit ≡ l.initial.bit + l.counter * 7)

abbrev pub invariant-loop-eight : goal.invariant-loop-eight
invariant-loop-eight l = SizeSoFar 7 l.plate l.at l.size l.bit

abbrev pub decreases-loop-eight : goal.decreases-loop-eight
decreases-loop-eight l = length l.plate * 8 - l.bit
