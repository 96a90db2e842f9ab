-- What an instruction leaves, with so many still to be passed over: one law for each way.
use Prim.Native.Nat.{ℕ, zero, suc, ◌-◌, ◌≤◌, ◌<◌}
use native.Mathlib.Numerals.{sub-one}
use native.Mathlib.Omega.{arith}
use mathlib.Core.Path.{◌≡◌, refl, sym, ap, ◌∙◌}
use mathlib.Core.List.{List, ◌∷◌}
use mathlib.Core.Bool.{true, false}
use Rattle.transcript.specs.declared.Test.{Test}
use Rattle.transcript.specs.State.{State, step}
use Rattle.transcript.specs.Perform.{Ending, goes_on, and_then, holds}
use Rattle.transcript.specs.Machine.{Laid, laid}
use Rattle.plate.specs.Program.{Instruction, statement, goto, if_skip}
use Rattle.running.specs.Run.{run}
use Rattle.run_steps.specs.Meets.{left_by, over_by}

-- a run is its first instruction, and then the others
pub run-first : (over : ℕ) (x : Instruction) (xs : List Instruction) (s : State)
    → and_then (left_by over x s) (run xs (over_by over x s)) ≡ run (x ∷ xs) over s
unfolding run left_by over_by
run-first (suc over) x xs s = refl
run-first zero (statement x) xs s = refl
run-first zero (goto skip) xs s = refl
run-first zero (if_skip test skip) xs s = refl

-- ---- passed over

module _ (x : Instruction) (s : State) where
  left_over : (over : ℕ) → 0 < over → goes_on s ≡ left_by over x s
  unfolding left_by
  left_over zero h = absurd (omega arith)
  left_over (suc over) h = refl

  pub over-less : (over : ℕ) → 0 < over → over - 1 ≡ over_by over x s
  unfolding over_by
  over-less zero h = absurd (omega arith)
  over-less (suc over) h = sub-one (suc over)

  pub lay-over : (over at : ℕ) (out : List ℕ) (p : Laid) → p ≡ laid at (goes_on s) out → 0 < over → p ≡ laid at (left_by over x s) out
  lay-over over at out p e h = e ∙ ap (λ (e : Ending). laid at e out) (left_over over h)

  -- none is passed over
  pub lay-none : (over at : ℕ) (out : List ℕ) (p : Laid) → p ≡ laid at (left_by 0 x s) out → over ≤ 0 → p ≡ laid at (left_by over x s) out
  lay-none over at out p e h = let z : over ≡ 0 = omega arith in rw z e

  pub over_none : (over k : ℕ) → k ≡ over_by 0 x s → over ≤ 0 → k ≡ over_by over x s
  over_none over k e h = let z : over ≡ 0 = omega arith in rw z e

-- ---- a jump

-- the run goes on in a state that is the same
pub lay-stepped : (at : ℕ) (out : List ℕ) (p : Laid) (n s : State) → p ≡ laid at (goes_on n) out → n ≡ s → p ≡ laid at (goes_on s) out
lay-stepped at out p n s h k = h ∙ ap (λ (s : State). laid at (goes_on s) out) k

-- a goto
module _ {i : Instruction} {skip : ℕ} (e : i ≡ goto skip) (s : State) where
  pub lay-goto : (at : ℕ) (out : List ℕ) (p : Laid) (n : State) → p ≡ laid at (goes_on n) out → n ≡ step s → p ≡ laid at (left_by 0 i s) out
  unfolding left_by
  lay-goto at out p n h k = rw e (rw k at h)

  pub over-goto : skip ≡ over_by 0 i s
  unfolding over_by
  over-goto = rw e

-- an if
module _ (test : Test) (skip : ℕ) (s : State) where
  pub lay-if : {i : Instruction} → i ≡ if_skip test skip → (at : ℕ) (out : List ℕ) (p : Laid) → p ≡ laid at (goes_on (step s)) out → p ≡ laid at (left_by 0 i s) out
  unfolding left_by
  lay-if e at out p h = rw e h

  pub over-if : {i : Instruction} {k : ℕ} → i ≡ if_skip test skip → k ≡ over_by 0 (if_skip test skip) s → k ≡ over_by 0 i s
  over-if e h = rw e h

  pub over-held : true ≡ holds test s → 0 ≡ over_by 0 (if_skip test skip) s
  unfolding over_by
  over-held v = rw (sym v)

  pub over-not-held : false ≡ holds test s → skip ≡ over_by 0 (if_skip test skip) s
  unfolding over_by
  over-not-held v = rw (sym v)
