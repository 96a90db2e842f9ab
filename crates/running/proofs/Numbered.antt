-- Document 01, "Run", in its own words: instructions by their numbers from 0. The run from instruction i on is `from p i`.
use Prim.Native.Nat.{ℕ, ◌+◌, ◌<◌}
use native.Mathlib.Numerals.{add-one}
use mathlib.Core.Path.{◌≡◌, refl, ◌∙◌}
use mathlib.Core.List.{List, ◌∷◌}
use mathlib.Core.Bool.{Bool, true, false, cond}
use lib.ListN.{length, get_or, drop}
use lib.Seq.{drop-cons, drop-drop, drop-length}
use Rattle.transcript.specs.Statement.{Statement}
use Rattle.transcript.specs.declared.Test.{Test}
use Rattle.transcript.specs.State.{State, step}
use Rattle.transcript.specs.Perform.{Ending, goes_on, and_then, perform, holds}
use Rattle.plate.specs.Program.{Instruction, statement, goto, if_skip}
use Rattle.running.specs.Run.{run}
use Rattle.running.proofs.Passing.{pass}

abbrev pub from : List Instruction → ℕ → State → Ending
from p i s = run (drop i p) 0 s

-- passing over k instructions from i on
pub from-pass : (p : List Instruction) (i k : ℕ) (s : State) → run (drop i p) k s ≡ from p (i + k) s
from-pass p i k s = pass (drop i p) k s ∙ rw drop-drop

module _ (p : List Instruction) (i : ℕ) (d : Instruction) (s : State) (within : i < length p) where
  at : (j : Instruction) → get_or p i d ≡ j → drop i p ≡ j ∷ drop (i + 1) p
  at j e = rw (add-one, drop-cons p i d, e)

  -- "Each instruction met is one step. The rest is as in the walk."
  pub at-statement : (x : Statement) → get_or p i d ≡ statement x → from p i s ≡ and_then (perform x s) (from p (i + 1))
  unfolding run
  at-statement x e = rw (at (statement x) e)

  -- "from instruction i it goes to i + 1 + skip"
  pub at-goto : (k : ℕ) → get_or p i d ≡ goto k → from p i s ≡ from p (i + 1 + k) (step s)
  unfolding run
  at-goto k e = rw (at (goto k) e) (from-pass p (i + 1) k (step s))

  -- "An if whose test holds goes on to the next; otherwise, like goto"
  pub at-if : (t : Test) (k : ℕ) → get_or p i d ≡ if_skip t k
      → from p i s ≡ cond (holds t s) (from p (i + 1) (step s)) (from p (i + 1 + k) (step s))
  unfolding run
  at-if t k e = rw (at (if_skip t k) e) (go (holds t s))
    where
      go : (v : Bool) → run (drop (i + 1) p) (cond v 0 k) (step s) ≡ cond v (from p (i + 1) (step s)) (from p (i + 1 + k) (step s))
      go true = refl
      go false = from-pass p (i + 1) k (step s)

-- "the run ends at n"
pub at-end : (p : List Instruction) (s : State) → from p (length p) s ≡ goes_on s
unfolding run
at-end p s = rw drop-length
