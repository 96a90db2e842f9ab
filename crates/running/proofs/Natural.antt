-- A run only adds to the transcript.
use Prim.Native.Nat.{ℕ, zero, suc}
use mathlib.Core.Path.{refl}
use mathlib.Core.List.{List, [], ◌∷◌}
use mathlib.Core.Bool.{cond}
use Rattle.transcript.specs.State.{step}
use Rattle.transcript.specs.Perform.{perform, holds}
use Rattle.transcript.proofs.Natural.{Natural, then-natural, perform-natural, holds-behind}
use Rattle.plate.specs.Program.{Instruction, statement, goto, if_skip}
use Rattle.running.specs.Run.{run}

pub run-natural : (xs : List Instruction) (over : ℕ) → Natural (run xs over)
unfolding run
run-natural [] over t s = refl
run-natural (x ∷ xs) (suc over) t s = run-natural xs over t s
run-natural (statement x ∷ xs) zero t s = then-natural (perform x) (run xs 0) (perform-natural x) (run-natural xs 0) t s
run-natural (goto skip ∷ xs) zero t s = run-natural xs skip t (step s)
run-natural (if_skip test skip ∷ xs) zero t s = rw (holds-behind test t s) (run-natural xs (cond (holds test s) 0 skip) t (step s))
