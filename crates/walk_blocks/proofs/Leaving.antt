-- What the code leaves where a walk goes on, where it has ended, and what follows.
use Prim.Native.Nat.{ℕ, ◌≤◌, ◌<◌}
use native.Mathlib.Omega.{arith}
use mathlib.Core.Path.{◌≡◌, refl, sym, ap, ◌∙◌, subst}
use mathlib.Core.List.{List, append-nil}
use mathlib.Core.Bool.{true, false, true≢false, false≢true}
use lib.ListN.{length, drop}
use lib.IntN.{ℤ}
use Rattle.causes.specs.declared.Outcome.{Outcome}
use Rattle.causes.specs.declared.Outcome.TheVariants.{Verdict, End, Waiting, Outside}
use Rattle.transcript.specs.declared.Machine.{Machine}
use Rattle.transcript.specs.declared.Performed.{Performed}
use Rattle.transcript.specs.State.{State}
use Rattle.transcript.specs.Perform.{Ending, goes_on, verdict, waits, outside, and_then, state_of, outcome_of}
use Rattle.transcript.specs.Machine.{machine_state, cleared, cleared_ending, laid, performed}
use Rattle.machine.proofs.Lay.{lay-here}
use Rattle.machine.proofs.Follow.{lay-outcome, lay-machine, lay-ended, lay-goes}
use Rattle.lines.specs.declared.Form.TheVariants.{Guide as a_guide}
use Rattle.lines.specs.Line.{Line}
use Rattle.lines.specs.Clean.{Clean}
use Rattle.guide.specs.Lines.{lines_at}
use Rattle.walk_blocks.specs.declared.Walked.{Walked}
use Rattle.walk_blocks.specs.Descend.{Left, Walker, here, follow, next}
use Rattle.walk_blocks.specs.Leaves.{Leaves, StepsFit, Paced}
use Rattle.walk_blocks.specs.Says.{is_end}
use Rattle.walk_blocks.proofs.Adding.{Adds}

-- ---- the outcome

pub is-end : (k : Outcome) → is_end k ≡ true → k ≡ End
is-end Verdict h = absurd (false≢true h)
is-end End h = refl
is-end (Waiting wrong) h = absurd (false≢true h)
is-end Outside h = absurd (false≢true h)

pub not_end : (k : Outcome) → is_end k ≡ false → k ≡ End → ⊥
not_end k h e = true≢false (ap is_end (sym e) ∙ h)

-- an ending with End goes on
goes : (e : Ending) → End ≡ outcome_of e → (s : State) × (e ≡ goes_on s)
goes (goes_on s) h = (s, refl)
goes (verdict s) h = absurd (true≢false (ap is_end h))
goes (waits wrong s) h = absurd (true≢false (ap is_end h))
goes (outside s) h = absurd (true≢false (ap is_end h))

-- ---- what follows an ending

follow-ending : (e : Ending) (ls : List Line) (k : Walker) → and_then e (λ s. (k s ls).ending) ≡ (follow e ls k).ending
follow-ending (goes_on s) ls k = refl
follow-ending (verdict s) ls k = refl
follow-ending (waits wrong s) ls k = refl
follow-ending (outside s) ls k = refl

pub follow-here : (e : Ending) (ls : List Line) → e ≡ (follow e ls here).ending
follow-here (goes_on s) ls = refl
follow-here (verdict s) ls = refl
follow-here (waits wrong s) ls = refl
follow-here (outside s) ls = refl

-- it goes on at a place
pub paced-here : (g : List ℕ) (a : ℕ) (w : Walked) (place : ℕ) → w.place ≡ place
    → StepsFit g place w.left.machine.steps → length (lines_at g place) ≤ length (lines_at g a) → place ≤ length g → Clean a_guide (drop place g) → Paced g a w
paced-here g a w place e s k l c =
    let same = ap (λ (n : ℕ). length (lines_at g n)) e in
    record {
      steps = omega (arith, same);
      lines = omega (arith, same);
      within = omega arith;
      clean = subst (λ (n : ℕ). Clean a_guide (drop n g)) (sym e) c;
    }

-- from a place on where there are no fewer lines
pub paced-from : (g : List ℕ) (a b : ℕ) (w : Walked) → Paced g b w → length (lines_at g b) ≤ length (lines_at g a) → Paced g a w
paced-from g a b w p l = record { steps = p.steps; lines = omega (arith, p.lines); within = p.within; clean = p.clean }

module _ (g : List ℕ) (answers : List ℤ) where
  -- it goes on, with nothing written
  pub leaves-here : (rs : List ℤ) (m : Machine) (end place : ℕ) (out : List ℕ) → end ≤ 18446744073709551615
      → Leaves g answers (record { left = record { machine = m; outcome = End; end = end }; place = place }) rs out end
      (here (machine_state rs answers m) (lines_at g place)) out
  leaves-here rs m end place out h =
      record { left = lay-here rs answers m End end out h; lines = λ e. refl }

  -- a statement has been performed
  pub leaves-performed : (p : Performed) (place : ℕ) (rs : List ℤ) (o : List ℕ) (at : ℕ) (e : Ending) (out : List ℕ)
      → performed rs answers p o ≡ laid at e out → Leaves g answers (record { left = p; place = place }) rs o at (follow e (lines_at g place) here) out
  leaves-performed p place rs o at e out h =
      record {
        left = h ∙ ap (λ (f : Ending). laid at f out) (follow-here e (lines_at g place));
        lines = λ z. lines (goes e (sym z ∙ lay-outcome rs answers p o at e out h));
      }
    where
      lines : (s : State) × (e ≡ goes_on s) → lines_at g place ≡ (follow e (lines_at g place) here).lines
      lines (s, q) = rw q

  module _ (w : Walked) (rs : List ℤ) (o : List ℕ) (at : ℕ) (v : Left) (out : List ℕ) (h : Leaves g answers w rs o at v out) where
    -- the same walk in other words
    pub leaves-as : (u : Left) → v ≡ u → Leaves g answers w rs o at u out
    leaves-as u e = subst (λ (x : Left). Leaves g answers w rs o at x out) e h

    -- it has ended, and nothing follows
    pub leaves-ended : (k : Walker) → is_end w.left.outcome ≡ false → Leaves g answers w rs o at (next v k) out
    unfolding next
    leaves-ended k n =
        record {
          left =
              lay-ended rs answers w.left o at v.ending (λ s. (k s v.lines).ending) out h.left (not_end w.left.outcome n)
              ∙ ap (λ (e : Ending). laid at e out) (follow-ending v.ending v.lines k);
          lines = λ z. absurd (not_end w.left.outcome n z);
        }

    next-lines : (k : Walker) → Adds k → w.left.outcome ≡ End
        → (k (machine_state rs answers w.left.machine) v.lines).lines ≡ (follow v.ending v.lines k).lines
    next-lines k a z = go (goes v.ending (sym z ∙ lay-outcome rs answers w.left o at v.ending out h.left))
      where
        go : (s : State) × (v.ending ≡ goes_on s)
            → (k (machine_state rs answers w.left.machine) v.lines).lines ≡ (follow v.ending v.lines k).lines
        go (s, q) =
            let m : machine_state rs answers w.left.machine ≡ cleared s =
            lay-machine rs answers w.left o at v.ending out h.left ∙ ap (λ (e : Ending). state_of (cleared_ending e)) q
            in
            let same = ap (λ (l : Left). l.lines) (a s.transcript (cleared s) v.lines) in
            rw (q, m) (rw append-nil at (sym same))

    -- it goes on, and k follows
    pub leaves-goes : (k : Walker) (x : Walked) (us : List ℤ) (new : List ℕ) → is_end w.left.outcome ≡ true → Adds k
        → Leaves g answers x us new w.left.end (k (machine_state rs answers w.left.machine) (lines_at g w.place)) o
        → length out < 9223372036854775808 → Leaves g answers x us new at (next v k) out
    unfolding next
    leaves-goes k x us new n a f l =
        let z = is-end w.left.outcome n in
        let m = machine_state rs answers w.left.machine in
        record {
          left =
              f.left
              ∙ ap (λ (ls : List Line). laid w.left.end (k m ls).ending o) (h.lines z)
              ∙ lay-goes rs answers w.left o at v.ending (λ s. (k s v.lines).ending) out h.left z
              (λ t s. ap (λ (l : Left). l.ending) (a t s v.lines)) l
              ∙ ap (λ (e : Ending). laid at e out) (follow-ending v.ending v.lines k);
          lines = λ y. f.lines y ∙ ap (λ (ls : List Line). (k m ls).lines) (h.lines z) ∙ next-lines k a z;
        }
