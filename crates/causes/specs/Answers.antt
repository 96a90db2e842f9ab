-- What a call makes, what it answers, and what it leaves in the buffer that it was lent.
use Rattle.std.specs.Prelude.{ℕ, List, ◌++◌, cond, length, drop, leb, Ok, Err}
use Rattle.std.specs.Prelude as std
use Rattle.causes.specs.Causes.{number, outcome_number, wrong_answers}
use Rattle.causes.specs.declared.Cause.{Cause}
use Rattle.causes.specs.declared.Cause.TheVariants.{TooShort}
use Rattle.causes.specs.declared.Refusal.{Refusal}
use Rattle.causes.specs.declared.Report.{Report}

-- A value, or a cause with its place.
pub data Result (A : Type 0) : Type 0 where
  made : A → Result A
  refused : Cause → ℕ → Result A

module _ {A B : Type 0} where
  -- What the value calls for; a refusal stays.
  abbrev pub ◌>>=◌ : Result A → (A → Result B) → Result B
  ◌>>=◌ (made a) f = f a
  ◌>>=◌ (refused cause place) f = refused cause place

infixl 20 ◌>>=◌
-- What a call returns beside the buffer: the result's length, a run's record, or a refusal's number and place.
pub data Answer : Type 0 where
  -- translate, write_plate, read_plate
  wrote : ℕ → Answer
  -- walk, run: length, outcome, answers taken, steps, wrong answers so far in the present question
  ended : ℕ → ℕ → ℕ → ℕ → ℕ → Answer
  -- "Causes", column returned
  refusal : ℕ → ℕ → Answer

-- The bytes of a result, and the answer that goes with them.
pub record Output : Type 0 where
  pub bytes : List ℕ
  pub answer : Answer

-- Bytes, answered with their length.
abbrev pub output : List ℕ → Output
output bs = record { bytes = bs; answer = wrote (length bs) }

-- a cause as its number, with its place
abbrev pub refusing : Cause → ℕ → Answer
refusing cause place = refusal (number cause) place

-- "lent output shorter than the result .. 11 .. number, 0", "left as it was: output", "Output past the result keeps its bytes"
abbrev pub lent : Result Output → List ℕ → Answer × List ℕ
lent (made o) buffer =
    cond (leb (length o.bytes) (length buffer))
    (o.answer, o.bytes ++ drop (length o.bytes) buffer)
    (refusing TooShort 0, buffer)
lent (refused cause place) buffer = (refusing cause place, buffer)

-- ---- "Where an answer is an enum, a definition provides this paper's number and values for each case"

-- of translate, write_plate and read_plate
abbrev pub written_answer : std.Result ℕ Refusal → Answer
written_answer (Ok length) = wrote length
written_answer (Err r) = refusing r.cause r.place

-- of walk and run
abbrev pub ran_answer : std.Result Report Refusal → Answer
ran_answer (Ok r) = ended r.length (outcome_number r.outcome) r.taken r.steps (wrong_answers r.outcome)
ran_answer (Err r) = refusing r.cause r.place
