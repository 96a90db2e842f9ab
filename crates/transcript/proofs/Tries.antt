-- A question with options is one try, and where that is wrong and another is left, the question again.
use Prim.Native.Nat.{ℕ, suc}
use mathlib.Core.Path.{◌≡◌, refl, ap, ◌∙◌}
use mathlib.Core.List.{List, [], ◌∷◌}
use mathlib.Core.Bool.{Bool, true, false, cond, true≢false, false≢true}
use lib.ListN.{length}
use lib.Dec.{ltb}
use lib.IntN.{ℤ}
use Rattle.causes.specs.declared.Outcome.TheVariants.{End}
use Rattle.text.specs.Text.{Text}
use Rattle.transcript.specs.State.{State, offered, step}
use Rattle.transcript.specs.Perform.{Ending, goes_on, outside, outcome_of, and_then, take_answer, is_option, take_wrong, offer, choose}
use Rattle.transcript.specs.Tries.{again, tried}
use Rattle.transcript.proofs.Natural.{Natural, write-behind, choose-behind}

module _ (r : ℕ) (t : Text) (options : List Text) where
  -- the question, after so many wrong answers
  abbrev pub question : ℕ → State → Ending
  question wrong s = choose r t options wrong s.left (offer t options s)

  pub question-natural : (wrong : ℕ) → Natural (question wrong)
  question-natural wrong u s =
      ap (choose r t options wrong s.left) (write-behind u (offered t options) (step s))
      ∙ choose-behind u r t options wrong s.left (offer t options s)

  module _ (wrong : ℕ) where
    -- no other try
    pub tried-last : (left : List ℤ) (s : State) → again (length options) wrong left ≡ false
        → tried r (length options) wrong left s ≡ choose r t options wrong left s
    unfolding tried choose
    tried-last [] s e = refl
    tried-last (a ∷ rest) s e = go (is_option (length options) a) (ltb wrong 2) e
      where
        go : (v w : Bool) → cond v false w ≡ false
            → cond v (goes_on (take_answer r a rest s)) (cond w (goes_on (take_wrong a rest s)) (outside s))
            ≡ cond v (goes_on (take_answer r a rest s)) (cond w (choose r t options (suc wrong) rest (offer t options (take_wrong a rest s))) (outside s))
        go true w e = refl
        go false true e = absurd (true≢false e)
        go false false e = refl

    -- the question again
    pub tried-again : (left : List ℤ) (s : State) → again (length options) wrong left ≡ true
        → and_then (tried r (length options) wrong left s) (question (suc wrong)) ≡ choose r t options wrong left s
    unfolding tried choose
    tried-again [] s e = absurd (false≢true e)
    tried-again (a ∷ rest) s e = go (is_option (length options) a) (ltb wrong 2) e
      where
        go : (v w : Bool) → cond v false w ≡ true
            → and_then (cond v (goes_on (take_answer r a rest s)) (cond w (goes_on (take_wrong a rest s)) (outside s))) (question (suc wrong))
            ≡ cond v (goes_on (take_answer r a rest s)) (cond w (choose r t options (suc wrong) rest (offer t options (take_wrong a rest s))) (outside s))
        go true w e = absurd (false≢true e)
        go false true e = refl
        go false false e = absurd (false≢true e)

    -- another try is left only after fewer than two wrong answers
    pub again-few : (left : List ℤ) → again (length options) wrong left ≡ true → ltb wrong 2 ≡ true
    again-few [] e = absurd (false≢true e)
    again-few (a ∷ rest) e = go (is_option (length options) a) e
      where
        go : (v : Bool) → cond v false (ltb wrong 2) ≡ true → ltb wrong 2 ≡ true
        go true e = absurd (false≢true e)
        go false e = e

    -- and then the try goes on
    pub again-goes : (left : List ℤ) (s : State) → again (length options) wrong left ≡ true
        → outcome_of (tried r (length options) wrong left s) ≡ End
    unfolding tried
    again-goes [] s e = absurd (false≢true e)
    again-goes (a ∷ rest) s e = go (is_option (length options) a) (ltb wrong 2) e
      where
        go : (v w : Bool) → cond v false w ≡ true
            → outcome_of (cond v (goes_on (take_answer r a rest s)) (cond w (goes_on (take_wrong a rest s)) (outside s))) ≡ End
        go true w e = refl
        go false true e = refl
        go false false e = absurd (false≢true e)
