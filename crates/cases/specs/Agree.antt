-- A test that a row computes to what was worked by hand.
use Rattle.std.specs.Prelude.{ℕ, List, [], ◌∷◌, Bool, true, ◌&&◌, eqb}
use Rattle.causes.specs.Answers.{Answer, wrote, ended, refusal}
use Rattle.text.specs.Parts.{same}
use Rattle.cases.specs.Row.{Row, ◌gives◌, ◌counts◌, ◌prints◌}

-- the numbers of an answer, the first telling its kind
abbrev pub numbers : Answer → List ℕ
numbers (wrote n) = 0 ∷ n ∷ []
numbers (ended n outcome taken steps wrong) = 1 ∷ n ∷ outcome ∷ taken ∷ steps ∷ wrong ∷ []
numbers (refusal number place) = 2 ∷ number ∷ place ∷ []

abbrev pub same_returned : Answer × List ℕ → Answer × List ℕ → Bool
same_returned a b = same (numbers a.0) (numbers b.0) && same a.1 b.1

abbrev pub agrees : Row → Bool
agrees (c gives w) = same_returned c w
agrees (c counts w) = eqb c w
agrees (c prints w) = same c w

unfoldable pub all_agree : List Row → Bool
all_agree [] = true
all_agree (r ∷ rows) = agrees r && all_agree rows
