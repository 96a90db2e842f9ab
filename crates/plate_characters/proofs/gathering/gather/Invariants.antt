-- `gather` meets its contract. The loops' invariant: the characters passed are counted and copied. The inner loop also knows the bits that are
-- left of the 56. The measure is the bits that are left.
use Prim.Native.Nat.{◌+◌, ◌*◌, ◌-◌}
use mathlib.Core.Path.{◌≡◌}
use lib.ListN.{length}
use Rattle.plate_characters.proofs.Cuts.{Left}
use Rattle.plate_characters.proofs.Gathers.{GatherSoFar}
use Rattle.plate_characters.proofs.gathering.gather.Given as goal

abbrev pub invariant-loop : goal.invariant-loop
invariant-loop l = GatherSoFar l.width l.plate l.at l.fn.out l.size l.out l.bit × Left l.plate l.bit l.left (l.counter * l.width)
    × (l.bit ≡ l.initial.bit + l.counter * l.width)

abbrev pub invariant-loop-word : goal.invariant-loop-word
invariant-loop-word l = GatherSoFar l.width l.plate l.at l.initial.out l.size l.out l.bit

abbrev pub decreases-loop-word : goal.decreases-loop-word
decreases-loop-word l = length l.plate * 8 - l.bit
