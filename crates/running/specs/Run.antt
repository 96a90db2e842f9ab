-- Document 01, "Run".
use Rattle.std.specs.Prelude.{ℕ, zero, suc, List, [], ◌∷◌, cond}
use Rattle.transcript.specs.State.{State, step}
use Rattle.transcript.specs.Perform.{Ending, goes_on, and_then, perform, holds}
use Rattle.plate.specs.Program.{Instruction, statement, goto, if_skip}

-- the instructions from here on, of which the first k are still to be passed over; "the run ends at n"
-- "An if whose test holds goes on to the next; otherwise, like goto, from instruction i it goes to i + 1 + skip. Each instruction met is
-- one step."
unfoldable pub run : List Instruction → ℕ → State → Ending
run [] k s = goes_on s
run (i ∷ is) (suc k) s = run is k s
run (statement x ∷ is) zero s = and_then (perform x s) (run is 0)
run (goto skip ∷ is) zero s = run is skip (step s)
run (if_skip test skip ∷ is) zero s = run is (cond (holds test s) 0 skip) (step s)
