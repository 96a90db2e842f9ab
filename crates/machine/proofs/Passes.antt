-- What the call of a walk or run leaves, from the pass on no buffer and from the pass on the lent one.
use Prim.Native.Nat.{ℕ, ◌≤◌, ◌<◌}
use native.Mathlib.Omega.{arith}
use mathlib.Core.Path.{◌≡◌, refl, ap, ◌∙◌}
use mathlib.Core.List.{List, [], ◌++◌}
use lib.ListN.{length, drop, replicate}
use lib.IntN.{ℤ, pos}
use borrow.Author.Tests.{le-leb, lt-leb}
use Rattle.causes.specs.Answers.{made, refusing, lent}
use Rattle.causes.specs.Answers as answer
use Rattle.causes.specs.Causes.{outcome_number, wrong_answers}
use Rattle.causes.specs.declared.Cause.TheVariants.{TooShort}
use Rattle.output.proofs.Pour.{pour-fits}
use Rattle.output.proofs.Poured.{ended, stored}
use Rattle.transcript.specs.declared.Machine.{Machine}
use Rattle.transcript.specs.declared.Performed.{Performed}
use Rattle.transcript.specs.State.{State, start, transcript_bytes}
use Rattle.transcript.specs.Perform.{Ending, goes_on, verdict, waits, outside, state_of, report}
use Rattle.transcript.specs.Machine.{machine_state, cleared_ending, laid, performed}
use Rattle.machine.proofs.Follow.{lay-outcome, lay-machine, lay-bytes}

cleared-taken : (e : Ending) → (state_of (cleared_ending e)).taken ≡ (state_of e).taken
cleared-taken (goes_on s) = refl
cleared-taken (verdict s) = refl
cleared-taken (waits wrong s) = refl
cleared-taken (outside s) = refl

cleared-steps : (e : Ending) → (state_of (cleared_ending e)).steps ≡ (state_of e).steps
cleared-steps (goes_on s) = refl
cleared-steps (verdict s) = refl
cleared-steps (waits wrong s) = refl
cleared-steps (outside s) = refl

-- the first pass has found the length p .end
module _ (rs answers : List ℤ) (e : Ending) (p : Performed) (x b : List ℕ) (h : performed rs answers p x ≡ laid 0 e b) where
  pub too_short : (out : List ℕ) → length out < p.end → (refusing TooShort 0, out) ≡ lent (made (report e)) out
  unfolding report
  too_short out l =
      let new = transcript_bytes (state_of e).transcript in
      let n = ended 0 new b p.end x (lay-bytes rs answers p x 0 e b h) in
      rw (lt-leb (length new) (length out) (omega arith))

  pub whole : (us : List ℤ) (q : Performed) (o out : List ℕ) → performed us answers q o ≡ laid 0 e out → p.end ≤ length out → length out < 9223372036854775808
      → (answer.ended p.end (outcome_number q.outcome) q.machine.taken q.machine.steps (wrong_answers q.outcome), o) ≡ lent (made (report e)) out
  unfolding report machine_state
  whole us q o out k l f =
      let new = transcript_bytes (state_of e).transcript in
      let size : p.end ≡ length new = omega (arith, ended 0 new b p.end x (lay-bytes rs answers p x 0 e b h)) in
      let bytes : o ≡ new ++ drop (length new) out = stored 0 new out q.end o (lay-bytes us answers q o 0 e out k) ∙ pour-fits new out (omega arith) in
      let outcome = ap outcome_number (lay-outcome us answers q o 0 e out k) in
      let wrong = ap wrong_answers (lay-outcome us answers q o 0 e out k) in
      let taken = ap (λ (s : State). s.taken) (lay-machine us answers q o 0 e out k) ∙ cleared-taken e in
      let steps = ap (λ (s : State). s.steps) (lay-machine us answers q o 0 e out k) ∙ cleared-steps e in
      rw (le-leb (length new) (length out) (omega arith)) (λ i. (answer.ended (size i) (outcome i) (taken i) (steps i) (wrong i), bytes i))

-- a machine at the start has made no step
pub fresh-steps : (m : Machine) → ((answers : List ℤ) → machine_state (replicate 32 (pos 0)) answers m ≡ start answers) → m.steps ≡ 0
unfolding machine_state start
fresh-steps m h = ap (λ (s : State). s.steps) (h [])
