-- What follows a statement: nothing behind a verdict, a wait or the third wrong answer; else it goes on from the statement's
-- machine, where the transcript then ends.
use Prim.Native.Nat.{ℕ, ◌<◌}
use native.Mathlib.Omega.{arith}
use mathlib.Core.Path.{◌≡◌, refl, sym, ap, ◌∙◌}
use mathlib.Core.List.{List, [], ◌∷◌, append-nil}
use lib.ListN.{length}
use lib.IntN.{ℤ}
use types.Run.{OneOf, miss}
use denote.Enum.Declared.{tag_of}
use Rattle.causes.specs.contracts.Outcome.{the_type}
use Rattle.causes.specs.Causes.{outcome_number}
use Rattle.causes.specs.declared.Outcome.{Outcome}
use Rattle.causes.specs.declared.Outcome.TheVariants.{Verdict, End, Waiting, Outside}
use Rattle.output.specs.Pour.{poured}
use Rattle.transcript.specs.declared.Performed.{Performed}
use Rattle.transcript.specs.State.{State, transcript_bytes}
use Rattle.transcript.specs.Perform.{Ending, goes_on, verdict, waits, outside, and_then, state_of, outcome_of}
use Rattle.transcript.specs.Machine.{machine_state, ending_by, cleared, cleared_ending, Laid, laid, performed}
use Rattle.transcript.proofs.Natural.{behind_ending, Natural}
use Rattle.machine.proofs.Lay.{lay-behind}

outcome-by : (k : Outcome) (s : State) → outcome_of (ending_by k s) ≡ k
outcome-by Verdict s = refl
outcome-by End s = refl
outcome-by (Waiting wrong) s = refl
outcome-by Outside s = refl

state-by : (k : Outcome) (s : State) → state_of (ending_by k s) ≡ s
state-by Verdict s = refl
state-by End s = refl
state-by (Waiting wrong) s = refl
state-by Outside s = refl

outcome-cleared : (e : Ending) → outcome_of (cleared_ending e) ≡ outcome_of e
outcome-cleared (goes_on s) = refl
outcome-cleared (verdict s) = refl
outcome-cleared (waits wrong s) = refl
outcome-cleared (outside s) = refl

module _ (rs answers : List ℤ) (r : Performed) (o : List ℕ) (at : ℕ) (e : Ending) (out : List ℕ) (h : performed rs answers r o ≡ laid at e out) where
  -- the outcome that the code answers is the ending's
  pub lay-outcome : r.outcome ≡ outcome_of e
  unfolding performed laid
  lay-outcome =
      sym (outcome-by r.outcome (machine_state rs answers r.machine)) ∙ ap (λ (l : Laid). outcome_of l.ending) h ∙ outcome-cleared e

  -- its machine is the ending's state
  pub lay-machine : machine_state rs answers r.machine ≡ state_of (cleared_ending e)
  unfolding performed laid
  lay-machine = sym (state-by r.outcome (machine_state rs answers r.machine)) ∙ ap (λ (l : Laid). state_of l.ending) h

  -- the transcript's end and the buffer
  pub lay-bytes : (r.end, o) ≡ poured at (transcript_bytes (state_of e).transcript) out
  unfolding performed laid poured
  lay-bytes = λ i. ((h i).end, (h i).buffer)

-- with no End, nothing follows
pub lay-ended : (rs answers : List ℤ) (r : Performed) (o : List ℕ) (at : ℕ) (e : Ending) (f : State → Ending) (out : List ℕ)
    → performed rs answers r o ≡ laid at e out → (r.outcome ≡ End → ⊥) → performed rs answers r o ≡ laid at (and_then e f) out
lay-ended rs answers r o at (goes_on s) f out h k = absurd (k (lay-outcome rs answers r o at (goes_on s) out h))
lay-ended rs answers r o at (verdict s) f out h k = h
lay-ended rs answers r o at (waits wrong s) f out h k = h
lay-ended rs answers r o at (outside s) f out h k = h

-- with End, what follows goes on from the machine and from where the transcript ends
pub lay-goes : (rs answers : List ℤ) (r : Performed) (o : List ℕ) (at : ℕ) (e : Ending) (f : State → Ending) (out : List ℕ)
    → performed rs answers r o ≡ laid at e out → r.outcome ≡ End → Natural f → length out < 9223372036854775808
    → laid r.end (f (machine_state rs answers r.machine)) o ≡ laid at (and_then e f) out
lay-goes rs answers r o at (verdict s) f out h k n l = absurd (omega (arith, ap outcome_number (sym k ∙ lay-outcome rs answers r o at (verdict s) out h)))
lay-goes rs answers r o at (waits wrong s) f out h k n l = absurd (omega (arith, ap outcome_number (sym k ∙ lay-outcome rs answers r o at (waits wrong s) out h)))
lay-goes rs answers r o at (outside s) f out h k n l = absurd (omega (arith, ap outcome_number (sym k ∙ lay-outcome rs answers r o at (outside s) out h)))
lay-goes rs answers r o at (goes_on s) f out h k n l =
    let w : behind_ending s.transcript (f (cleared s)) ≡ f s = sym (n s.transcript (cleared s)) ∙ ap f (rw append-nil) in
    ap (λ (u : State). laid r.end (f u) o) (lay-machine rs answers r o at (goes_on s) out h)
    ∙ lay-behind s.transcript (f (cleared s)) at r.end out o (lay-bytes rs answers r o at (goes_on s) out h) l
    ∙ ap (λ (e : Ending). laid at e out) w

-- an outcome other than End, as a match leaves it
pub not_end : (k : Outcome) → OneOf (0 ∷ (2 ∷ (3 ∷ []))) (tag_of the_type k) → k ≡ End → ⊥
not_end k h e = miss (0 ∷ (2 ∷ (3 ∷ []))) 1 tt (rw e at h)
