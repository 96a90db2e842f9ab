-- `find_far` meets its contract: the first x from a on is the first from the place that is reached.
use Prim.Native.Nat.{◌+◌, ◌≤◌, ◌-◌}
use mathlib.Core.Path.{◌≡◌}
use lib.ListN.{length, drop}
use Rattle.text.specs.Parts.{until_byte}
use Rattle.text.proofs.search.find_far.Given as goal

abbrev pub invariant-loop-at : goal.invariant-loop-at
invariant-loop-at l = (l.a + until_byte l.x (drop l.a l.s) ≡ l.at + until_byte l.x (drop l.at l.s)) × (l.at ≤ length l.s)

abbrev pub decreases-loop-at : goal.decreases-loop-at
decreases-loop-at l = length l.s - l.at
