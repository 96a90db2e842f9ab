-- The line that a call's answer is written as: model/README.md, stdout.
use Rattle.std.specs.Prelude.{ℕ, List, [], ◌∷◌, ◌++◌, Result}
use Rattle.causes.specs.Answers.{Answer, wrote, ended, refusal, written_answer, ran_answer}
use Rattle.causes.specs.declared.Refusal.{Refusal}
use Rattle.causes.specs.declared.Report.{Report}
use Rattle.text.specs.Quoted.{bytes}
use Rattle.text.specs.Parts.{comma, LF}
use Rattle.decimals.specs.Number.{decimalℕ}
use Rattle.vectors.specs.Sums.{buffer_text}

-- `Y,LENGTH`, `Y,LENGTH,OUTCOME,TAKEN,STEPS,WRONG` or `N,NUMBER,PLACE`
abbrev pub values : Answer → List ℕ
values (wrote length) = bytes "Y," ++ decimalℕ length
values (ended length outcome taken steps wrong) =
    bytes "Y,"
    ++ decimalℕ length
    ++ (comma ∷ decimalℕ outcome)
    ++ (comma ∷ decimalℕ taken)
    ++ (comma ∷ decimalℕ steps)
    ++ (comma ∷ decimalℕ wrong)
values (refusal number place) = bytes "N," ++ decimalℕ number ++ (comma ∷ decimalℕ place)

-- the whole of the lent output behind a comma, and LF
unfoldable pub lent_end : List ℕ → List ℕ
lent_end lent = (comma ∷ []) ++ buffer_text lent ++ (LF ∷ [])

-- the line of an answer of translate, write_plate or read_plate
unfoldable pub written_line : Result ℕ Refusal → List ℕ → List ℕ
written_line answer lent = values (written_answer answer) ++ lent_end lent

-- the line of an answer of walk or run
unfoldable pub ran_line : Result Report Refusal → List ℕ → List ℕ
ran_line answer lent = values (ran_answer answer) ++ lent_end lent
