-- The outcome is waiting exactly where the last line written is a question's and no answer is left for it.
use Prim.Native.Nat.{ℕ, suc}
use native.Mathlib.Omega.{arith}
use mathlib.Core.Path.{◌≡◌, refl, sym, ◌∙◌}
use mathlib.Core.Logic.{◌↔◌}
use mathlib.Core.List.{List, [], ◌∷◌, ◌++◌, cons-ne-nil}
use mathlib.Core.Bool.{Bool, true, false, cond, false≢true}
use lib.ListN.{length}
use lib.Dec.{ltb}
use lib.IntN.{ℤ}
use Rattle.causes.specs.Causes.{outcome_number}
use Rattle.text.specs.Text.{Text}
use Rattle.transcript.specs.Statement.{Statement, input, inputs, print, printex}
use Rattle.transcript.specs.State.{TranscriptLine, asked, offered, answered, shown, ruled, State, step, write_line}
use Rattle.transcript.specs.Perform.{
  Ending,
  goes_on,
  verdict,
  waits,
  outside,
  and_then,
  answer,
  take_answer,
  is_option,
  take_wrong,
  offer,
  choose,
  perform,
  state_of,
  outcome_of,
}
use Rattle.transcript.specs.Waiting.{is_question, ends_asking, Unanswered}

ends_last : (ls : List TranscriptLine) (l : TranscriptLine) → ends_asking (ls ++ (l ∷ [])) ≡ is_question l
unfolding ends_asking
ends_last [] l = refl
ends_last (k ∷ []) l = refl
ends_last (k ∷ m ∷ ls) l = ends_last (m ∷ ls) l

-- what each ending says of the last line written and of the answers left
abbrev pub Told : Ending → Type 0
Told (goes_on s) = ends_asking s.transcript ≡ false
Told (verdict s) = ends_asking s.transcript ≡ false
Told (waits wrong s) = Unanswered s
Told (outside s) = s.left ≡ [] → ⊥

answer-told : (r : ℕ) (left : List ℤ) (s : State) → s.left ≡ left → ends_asking s.transcript ≡ true → Told (answer r left s)
answer-told r [] s e q = record { asks = q; none = e }
answer-told r (a ∷ rest) s e q = ends_last s.transcript (answered a)

choose-told : (r : ℕ) (t : Text) (options : List Text) (wrong : ℕ) (left : List ℤ) (s : State) → s.left ≡ left
    → ends_asking s.transcript ≡ true → Told (choose r t options wrong left s)
unfolding choose
choose-told r t options wrong [] s e q = record { asks = q; none = e }
choose-told r t options wrong (a ∷ rest) s e q =
    go (is_option (length options) a) (ltb wrong 2)
    (choose-told r t options (suc wrong) rest (offer t options (take_wrong a rest s)) refl
    (ends_last (take_wrong a rest s).transcript (offered t options)))
  where
    go : (v w : Bool) → Told (choose r t options (suc wrong) rest (offer t options (take_wrong a rest s)))
        → Told (cond v (goes_on (take_answer r a rest s)) (cond w (choose r t options (suc wrong) rest (offer t options (take_wrong a rest s))) (outside s)))
    go true w h = ends_last s.transcript (answered a)
    go false true h = h
    go false false h = λ none. cons-ne-nil a rest (sym e ∙ none)

pub perform-told : (x : Statement) (s : State) → Told (perform x s)
unfolding perform
perform-told (input r t) s = answer-told r s.left (write_line (asked t) (step s)) refl (ends_last s.transcript (asked t))
perform-told (inputs r t options) s =
    choose-told r t options 0 s.left (offer t options s) refl (ends_last s.transcript (offered t options))
perform-told (print t) s = ends_last s.transcript (shown t)
perform-told (printex t) s = ends_last s.transcript (ruled t)

-- what follows keeps it, if that starts behind a line that is no question
pub then-told : (m : Ending) (f : State → Ending) → Told m → ((s : State) → ends_asking s.transcript ≡ false → Told (f s))
    → Told (and_then m f)
then-told (goes_on s) f h k = k s h
then-told (verdict s) f h k = h
then-told (waits wrong s) f h k = h
then-told (outside s) f h k = h

-- no ending but a wait has a question without its answer
not-asking : (s : State) {n : ℕ} → ends_asking s.transcript ≡ false → Unanswered s → n ≡ 2
not-asking s h u = absurd (false≢true (sym h ∙ u.asks))

pub told-waits : (m : Ending) → Told m → (outcome_number (outcome_of m) ≡ 2) ↔ Unanswered (state_of m)
told-waits (goes_on s) h = ((λ e. absurd (omega arith)), not-asking s h)
told-waits (verdict s) h = ((λ e. absurd (omega arith)), not-asking s h)
told-waits (waits wrong s) h = ((λ e. h), (λ u. refl))
told-waits (outside s) h = ((λ e. absurd (omega arith)), (λ u. absurd (h u.none)))
