-- A statement that waits has at most two wrong answers to its question: the third ends with outcome 3.
use Prim.Native.Nat.{ℕ, suc, ◌≤◌}
use native.Mathlib.Omega.{arith}
use mathlib.Core.Path.{◌≡◌, refl}
use mathlib.Core.List.{List, [], ◌∷◌}
use mathlib.Core.Bool.{Bool, true, false, cond}
use lib.ListN.{length}
use lib.Dec.{ltb}
use lib.IntN.{ℤ}
use borrow.Author.Tests.{ltb-true}
use Rattle.causes.specs.Causes.{outcome_number, wrong_answers}
use Rattle.text.specs.Text.{Text}
use Rattle.transcript.specs.Statement.{Statement, input, inputs, print, printex}
use Rattle.transcript.specs.State.{State}
use Rattle.transcript.specs.Perform.{
  Ending,
  goes_on,
  verdict,
  waits,
  outside,
  and_then,
  answer,
  take_answer,
  is_option,
  take_wrong,
  offer,
  choose,
  perform,
  outcome_of,
}

-- it waits with at most two wrong answers
abbrev pub Few : Ending → Type 0
Few e = outcome_number (outcome_of e) ≡ 2 → wrong_answers (outcome_of e) ≤ 2

answer-few : (r : ℕ) (left : List ℤ) (s : State) → Few (answer r left s)
answer-few r [] s e = omega arith
answer-few r (a ∷ rest) s e = omega arith

choose-few : (r : ℕ) (t : Text) (options : List Text) (wrong : ℕ) (left : List ℤ) (s : State) → wrong ≤ 2
    → Few (choose r t options wrong left s)
unfolding choose
choose-few r t options wrong [] s h = λ e. h
choose-few r t options wrong (a ∷ rest) s h =
    go (is_option (length options) a) (ltb wrong 2) refl (λ l. choose-few r t options (suc wrong) rest (offer t options (take_wrong a rest s)) l)
  where
    go : (v w : Bool) → ltb wrong 2 ≡ w → (suc wrong ≤ 2 → Few (choose r t options (suc wrong) rest (offer t options (take_wrong a rest s))))
        → Few (cond v (goes_on (take_answer r a rest s)) (cond w (choose r t options (suc wrong) rest (offer t options (take_wrong a rest s))) (outside s)))
    go true w f k = λ e. omega arith
    go false true f k = k (omega (arith, ltb-true wrong 2 f))
    go false false f k = λ e. omega arith

pub perform-few : (x : Statement) (s : State) → Few (perform x s)
unfolding perform
perform-few (input r t) s = answer-few r s.left _
perform-few (inputs r t options) s = choose-few r t options 0 s.left (offer t options s) (omega arith)
perform-few (print t) s = λ e. omega arith
perform-few (printex t) s = λ e. omega arith

pub then-few : (m : Ending) (f : State → Ending) → Few m → ((s : State) → Few (f s)) → Few (and_then m f)
then-few (goes_on s) f h k = k s
then-few (verdict s) f h k = h
then-few (waits wrong s) f h k = h
then-few (outside s) f h k = h
