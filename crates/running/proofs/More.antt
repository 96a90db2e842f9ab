-- More answers only lengthen the record of a run.
use Prim.Native.Nat.{ℕ, zero, suc}
use native.Mathlib.Omega.{arith}
use mathlib.Core.Path.{refl, ap, ◌∙◌}
use mathlib.Core.List.{List, [], ◌∷◌, ◌++◌}
use mathlib.Core.Bool.{cond}
use lib.IntN.{ℤ}
use Rattle.transcript.specs.State.{State, step, start, transcript_bytes}
use Rattle.transcript.specs.Perform.{Ending, goes_on, verdict, waits, outside, perform, holds, report}
use Rattle.transcript.proofs.Bytes.{bytes-append}
use Rattle.plate.specs.Program.{Instruction, statement, goto, if_skip}
use Rattle.running.specs.Run.{run}
use Rattle.running.specs.More.{Lengthens}
use Rattle.running.proofs.Natural.{run-natural}
use Rattle.running.proofs.Longer.{given, Longer, then-longer, perform-longer, holds-given}

pub run-longer : (more : List ℤ) (is : List Instruction) (k : ℕ) (s : State) → Longer more (run is k s) (run is k (given more s))
unfolding run
run-longer more [] k s = refl
run-longer more (i ∷ is) (suc k) s = run-longer more is k s
run-longer more (statement x ∷ is) zero s =
    then-longer more (perform x s) (perform x (given more s)) (run is 0) (run-natural is 0) (perform-longer more x s) (run-longer more is 0)
run-longer more (goto skip ∷ is) zero s = run-longer more is skip (step s)
run-longer more (if_skip test skip ∷ is) zero s = rw (holds-given more test s) (run-longer more is (cond (holds test s) 0 skip) (step s))

-- what is reported
pub longer-lengthens : (more : List ℤ) (m n : Ending) → Longer more m n → Lengthens m n
unfolding report
longer-lengthens more (goes_on s) n h = record { waiting = λ e. absurd (omega arith); otherwise = λ e. rw h refl }
longer-lengthens more (verdict s) n h = record { waiting = λ e. absurd (omega arith); otherwise = λ e. rw h refl }
longer-lengthens more (outside s) n h = record { waiting = λ e. absurd (omega arith); otherwise = λ e. rw h refl }
longer-lengthens more (waits wrong s) n h =
    record {
      waiting = λ e. (transcript_bytes h.0, ap transcript_bytes h.1 ∙ bytes-append s.transcript h.0);
      otherwise = λ e. absurd (e refl);
    }

-- "More answers only lengthen the record"
pub run_more : (is : List Instruction) (answers more : List ℤ) → Lengthens (run is 0 (start answers)) (run is 0 (start (answers ++ more)))
unfolding start
run_more is answers more =
    longer-lengthens more (run is 0 (start answers)) (run is 0 (start (answers ++ more))) (run-longer more is 0 (start answers))
