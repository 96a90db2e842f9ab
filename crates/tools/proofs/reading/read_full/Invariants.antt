-- `read_full` fills the space from its front on.
use Rattle.std.specs.Prelude.{◌-◌, ◌≤◌, length}
use Rattle.tools.proofs.reading.read_full.Given as goal

abbrev pub invariant-loop-done : goal.invariant-loop-done
invariant-loop-done g l = l.done ≤ length l.initial.space

abbrev pub decreases-loop-done : goal.decreases-loop-done
decreases-loop-done g l = length l.space - l.done
