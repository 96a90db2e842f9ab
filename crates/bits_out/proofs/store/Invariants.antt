-- `bits_out::store` meets its contract. The loop's invariant: writing what is left makes the whole.
-- The measure is what is left. Assumes nothing.
use Prim.Native.Nat.{◌+◌, ◌*◌, ◌≤◌, ◌<◌}
use mathlib.Core.Path.{◌≡◌}
use lib.ListN.{length}
use Rattle.bits.proofs.Turns.{PartWritten}
use Rattle.bits_out.proofs.store.Given as goal

abbrev pub invariant-loop-left : goal.invariant-loop-left
invariant-loop-left l = (l.bit < 8) × (l.left ≤ l.width) × (l.index * 8 + l.bit + l.left ≡ l.at + l.width) × (length l.out ≡ length l.initial.out)
    × PartWritten l.initial.out l.at l.width l.value l.out (l.index * 8 + l.bit) l.left

abbrev pub decreases-loop-left : goal.decreases-loop-left
decreases-loop-left l = l.left
