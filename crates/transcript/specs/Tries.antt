-- One try at an inputs, as the code makes it: the question's C line is written, and there were so many wrong answers to it.
use Rattle.std.specs.Prelude.{ℕ, List, [], ◌∷◌, Bool, false, cond, ltb, ℤ}
use Rattle.causes.specs.Limits.{more_tries}
use Rattle.transcript.specs.State.{State}
use Rattle.transcript.specs.Perform.{Ending, goes_on, waits, outside, take_answer, is_option, take_wrong}

-- whether the answer is wrong and another try is left
abbrev pub again : ℕ → ℕ → List ℤ → Bool
again n wrong [] = false
again n wrong (a ∷ rest) = cond (is_option n a) false (ltb wrong more_tries)

-- what is done with the answer
unfoldable pub tried : ℕ → ℕ → ℕ → List ℤ → State → Ending
tried r n wrong [] s = waits wrong s
tried r n wrong (a ∷ rest) s =
    cond (is_option n a) (goes_on (take_answer r a rest s)) (cond (ltb wrong more_tries) (goes_on (take_wrong a rest s)) (outside s))
