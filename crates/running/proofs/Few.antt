-- A run that waits has had at most two wrong answers to the present question.
use Prim.Native.Nat.{ℕ, zero, suc}
use native.Mathlib.Omega.{arith}
use mathlib.Core.List.{List, [], ◌∷◌}
use mathlib.Core.Bool.{cond}
use Rattle.transcript.specs.State.{State, step}
use Rattle.transcript.specs.Perform.{perform, holds}
use Rattle.transcript.proofs.Few.{Few, perform-few, then-few}
use Rattle.plate.specs.Program.{Instruction, statement, goto, if_skip}
use Rattle.running.specs.Run.{run}

pub run-few : (is : List Instruction) (k : ℕ) (s : State) → Few (run is k s)
unfolding run
run-few [] k s = λ e. omega arith
run-few (i ∷ is) (suc k) s = run-few is k s
run-few (statement x ∷ is) zero s = then-few (perform x s) (run is 0) (perform-few x s) (run-few is 0)
run-few (goto skip ∷ is) zero s = run-few is skip (step s)
run-few (if_skip test skip ∷ is) zero s = run-few is (cond (holds test s) 0 skip) (step s)
