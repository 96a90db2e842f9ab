-- `bits_in::read_bytes` meets its contract. The loop's invariant: what is read and what is left make the whole number.
-- The measure is what is left. Assumes nothing.
use Prim.Native.Nat.{◌+◌, ◌*◌, ◌≤◌, ◌<◌}
use mathlib.Core.Path.{◌≡◌}
use Rattle.bits.proofs.Turns.{PartRead}
use Rattle.bits_in.proofs.read_bytes.Given as goal

abbrev pub invariant-loop-left : goal.invariant-loop-left
invariant-loop-left l = (l.bit < 8) × (l.left ≤ l.width) × (l.index * 8 + l.bit + l.left ≡ l.at + l.width) × PartRead l.bytes l.at l.width l.value (l.index * 8 + l.bit) l.left

abbrev pub decreases-loop-left : goal.decreases-loop-left
decreases-loop-left l = l.left
