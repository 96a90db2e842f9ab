-- A statement is one step, and inputs one more for each C line written again.
use Prim.Native.Nat.{ℕ, suc, ◌+◌, ◌-◌, ◌≤◌}
use native.Mathlib.Omega.{arith}
use mathlib.Core.Path.{◌≡◌, refl}
use mathlib.Core.List.{List, [], ◌∷◌}
use mathlib.Core.Bool.{Bool, true, false, cond}
use lib.ListN.{length}
use lib.Dec.{ltb}
use lib.IntN.{ℤ}
use borrow.Author.Tests.{ltb-true}
use Rattle.text.specs.Text.{Text}
use Rattle.transcript.specs.Statement.{Statement, input, inputs, print, printex}
use Rattle.transcript.specs.State.{State, step, write_line, asked}
use Rattle.transcript.specs.Perform.{goes_on, outside, answer, take_answer, is_option, take_wrong, offer, choose, perform, state_of}

-- the most steps of a statement
abbrev pub most_steps : Statement → ℕ
most_steps (input r t) = 1
most_steps (inputs r t options) = 3
most_steps (print t) = 1
most_steps (printex t) = 1

answer-steps : (r : ℕ) (left : List ℤ) (s : State) → (state_of (answer r left s)).steps ≡ s.steps
answer-steps r [] s = refl
answer-steps r (a ∷ rest) s = refl

-- at most two wrong answers are taken
pub choose-steps : (r : ℕ) (t : Text) (options : List Text) (wrong : ℕ) (left : List ℤ) (s : State)
    → (state_of (choose r t options wrong left s)).steps ≤ s.steps + (2 - wrong)
unfolding choose
choose-steps r t options wrong [] s = omega arith
choose-steps r t options wrong (a ∷ rest) s =
    go (is_option (length options) a) (ltb wrong 2) refl (choose-steps r t options (suc wrong) rest (offer t options (take_wrong a rest s)))
  where
    go : (v w : Bool) → ltb wrong 2 ≡ w
        → (state_of (choose r t options (suc wrong) rest (offer t options (take_wrong a rest s)))).steps ≤ suc s.steps + (2 - suc wrong)
        → (state_of
        (cond v (goes_on (take_answer r a rest s)) (cond w (choose r t options (suc wrong) rest (offer t options (take_wrong a rest s))) (outside s)))
        ).steps
        ≤ s.steps + (2 - wrong)
    go true w e h = omega arith
    go false true e h = omega (arith, ltb-true wrong 2 e)
    go false false e h = omega arith

pub perform-steps : (x : Statement) (s : State) → (state_of (perform x s)).steps ≤ s.steps + most_steps x
unfolding perform
perform-steps (input r t) s = omega (arith, answer-steps r s.left (write_line (asked t) (step s)))
perform-steps (inputs r t options) s = omega (arith, choose-steps r t options 0 s.left (offer t options s))
perform-steps (print t) s = omega arith
perform-steps (printex t) s = omega arith
