-- One instruction of a run, with so many still to be passed over.
use Rattle.std.specs.Prelude.{ℕ, zero, suc, cond}
use Rattle.transcript.specs.State.{State, step}
use Rattle.transcript.specs.Perform.{Ending, goes_on, perform, holds}
use Rattle.plate.specs.Program.{Instruction, statement, goto, if_skip}

-- how it is left; "Each instruction met is one step"
unfoldable pub left_by : ℕ → Instruction → State → Ending
left_by (suc over) i s = goes_on s
left_by zero (statement x) s = perform x s
left_by zero (goto skip) s = goes_on (step s)
left_by zero (if_skip test skip) s = goes_on (step s)

-- how many are then to be passed over; "An if whose test holds goes on to the next; otherwise, like goto, .. to i + 1 + skip"
unfoldable pub over_by : ℕ → Instruction → State → ℕ
over_by (suc over) i s = over
over_by zero (statement x) s = 0
over_by zero (goto skip) s = skip
over_by zero (if_skip test skip) s = cond (holds test s) 0 skip
