-- The values of an answer, field by field, as C gets them: number 0 means accepted, and place is 0 then; else number is the cause's, and
-- every other field but place is 0.
use Rattle.std.specs.Prelude.{ℕ, ◌≡◌, List}
use Rattle.causes.specs.Answers.{Answer, wrote, ended, refusal}
use Rattle.doorplate.specs.declared.WrittenValues.{WrittenValues}
use Rattle.doorplate.specs.declared.RanValues.{RanValues}

-- The fields of a doorplate_ran.
abbrev pub ran_values : Answer → RanValues
ran_values (wrote length) = record { number = 0; place = 0; length = length; outcome = 0; taken = 0; steps = 0; wrong = 0 }
ran_values (ended length outcome taken steps wrong) =
    record { number = 0; place = 0; length = length; outcome = outcome; taken = taken; steps = steps; wrong = wrong }
ran_values (refusal number place) =
    record { number = number; place = place; length = 0; outcome = 0; taken = 0; steps = 0; wrong = 0 }

-- The fields of a doorplate_written: the first three of those.
abbrev pub written_values : Answer → WrittenValues
written_values answer =
    record {
      number = (ran_values answer).number;
      place = (ran_values answer).place;
      length = (ran_values answer).length;
    }

-- What C gets of a call's answer, and the buffer that the call leaves, are those of the call's definition.
abbrev pub WrittenIs : WrittenValues → List ℕ → Answer × List ℕ → Type 0
WrittenIs r buffer call = (r ≡ written_values call.0) × (buffer ≡ call.1)

abbrev pub RanIs : RanValues → List ℕ → Answer × List ℕ → Type 0
RanIs r buffer call = (r ≡ ran_values call.0) × (buffer ≡ call.1)
