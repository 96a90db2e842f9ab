-- `each_place` ends: each step goes on in the input, or is the last.
use Rattle.std.specs.Prelude.{◌-◌, length}
use Rattle.vectors.proofs.cases.each_place.Given as goal

abbrev pub invariant-loop-at : goal.invariant-loop-at
invariant-loop-at g l = goal.F-IsAlwaysCallable g l.step

abbrev pub decreases-loop-at : goal.decreases-loop-at
decreases-loop-at g l = length l.s - l.at
