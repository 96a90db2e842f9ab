-- A run that passes over instructions goes on behind them.
use Prim.Native.Nat.{ℕ, zero, suc}
use native.Mathlib.Numerals.{add-one}
use mathlib.Core.Path.{◌≡◌, refl, ◌∙◌}
use mathlib.Core.List.{List, [], ◌∷◌, ◌++◌}
use lib.ListN.{length, drop}
use lib.Seq.{drop-append_seam, drop-append-add}
use Rattle.transcript.specs.State.{State}
use Rattle.plate.specs.Program.{Instruction}
use Rattle.running.specs.Run.{run}

pub pass : (p : List Instruction) (k : ℕ) (s : State) → run p k s ≡ run (drop k p) 0 s
unfolding run
pass [] zero s = refl
pass [] (suc k) s = refl
pass (i ∷ p) zero s = refl
pass (i ∷ p) (suc k) s = pass p k s

pub pass_all : (p q : List Instruction) (s : State) → run (p ++ q) (length p) s ≡ run q 0 s
pass_all p q s = pass (p ++ q) (length p) s ∙ rw drop-append_seam

-- with one instruction between
pub pass-suc : (p q : List Instruction) (i : Instruction) (s : State) → run (p ++ (i ∷ q)) (suc (length p)) s ≡ run q 0 s
pass-suc p q i s = pass (p ++ (i ∷ q)) (suc (length p)) s ∙ rw (← add-one (length p), drop-append-add)
