-- Document 02, n), "More answers only lengthen the record": what a run on a list of answers says of the run on that list followed by more.
use Rattle.std.specs.Prelude.{ℕ, ◌≤◌, ◌≡◌, List, ◌++◌, take}
use Rattle.causes.specs.Answers.{Answer, ended}
use Rattle.causes.specs.Causes.{outcome_number}
use Rattle.transcript.specs.Perform.{Ending, outcome_of, report}

-- how the run on A ended, and how the run on A followed by B ended
pub record Lengthens (short long : Ending) : Type 0 where
  -- "if the run on A waits, the transcript of A followed by B begins with that of A"
  pub waiting : outcome_number (outcome_of short) ≡ 2 → (rest : List ℕ) × ((report long).bytes ≡ (report short).bytes ++ rest)
  -- "if it ended in any other way, both runs agree in transcript, outcome, answers taken and steps", and in the wrong answers
  pub otherwise : (outcome_number (outcome_of short) ≡ 2 → ⊥) → report long ≡ report short

-- the same of two calls' answers and buffers, where there was "room for both"
abbrev pub CallsLengthen : Answer × List ℕ → Answer × List ℕ → Type 0
CallsLengthen short long =
    (n o k s w n' o' k' s' w' : ℕ) → short.0 ≡ ended n o k s w → long.0 ≡ ended n' o' k' s' w'
    → (o ≡ 2 → (n ≤ n') × (take n long.1 ≡ take n short.1))
    × ((o ≡ 2 → ⊥) → (long.0 ≡ short.0) × (take n long.1 ≡ take n short.1))
