-- `read_answers` meets its contract: the answers so far have room in the space.
use Rattle.std.specs.Prelude.{◌≤◌, length}
use Rattle.tools.proofs.answers.read_answers.Given as goal

abbrev pub invariant-loop-i : goal.invariant-loop-i
invariant-loop-i l = l.count ≤ length l.initial.space
