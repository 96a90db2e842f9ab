-- Document 01, "Causes": the number of each cause. "Outcomes": the number of each outcome. Document 02, c): the wrong answers.
use Rattle.std.specs.Prelude.{ℕ}
use Rattle.causes.specs.declared.Cause.{Cause}
use Rattle.causes.specs.declared.Cause.TheVariants.{
  Book,
  TooLong,
  Byte,
  Kind,
  Value,
  Phrase,
  Nesting,
  Skip,
  Instructions,
  PlateTooLong,
  TooShort,
  PlateEnds,
  Unused,
  Spelling,
  Filling,
}
use Rattle.causes.specs.declared.Outcome.{Outcome}
use Rattle.causes.specs.declared.Outcome.TheVariants.{Verdict, End, Waiting, Outside}

-- "Causes", column number
abbrev pub number : Cause → ℕ
number Book = 1
number TooLong = 2
number Byte = 3
number Kind = 4
number Value = 5
number Phrase = 6
number Nesting = 7
number Skip = 8
number Instructions = 9
number PlateTooLong = 10
number TooShort = 11
number PlateEnds = 12
number Unused = 13
number Spelling = 14
number Filling = 15

-- "Outcomes: 0 verdict; 1 end of guide without one; 2 waiting, no answer left; 3 an inputs answer outside its options" for the third time
abbrev pub outcome_number : Outcome → ℕ
outcome_number Verdict = 0
outcome_number End = 1
outcome_number (Waiting wrong) = 2
outcome_number Outside = 3

-- "the wrong answers so far in the present question (3 with outcome 3, 0 after any other end)"
abbrev pub wrong_answers : Outcome → ℕ
wrong_answers Verdict = 0
wrong_answers End = 0
wrong_answers (Waiting wrong) = wrong
wrong_answers Outside = 3
