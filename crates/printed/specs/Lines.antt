-- The lines that are printed of a result.
use Rattle.std.specs.Prelude.{ℕ, List, [], ◌∷◌, ◌++◌}
use Rattle.causes.specs.Causes.{number, outcome_number, wrong_answers}
use Rattle.causes.specs.declared.Cause.{Cause}
use Rattle.causes.specs.declared.Outcome.{Outcome}
use Rattle.text.specs.Quoted.{bytes}
use Rattle.text.specs.Parts.{comma, LF}
use Rattle.decimals.specs.Number.{decimalℕ}
use Rattle.printed.specs.Pairs.{pairs}

-- "`plate,` and the bytes", ended by LF
unfoldable pub plate_line : List ℕ → List ℕ
plate_line plate = bytes "plate," ++ pairs plate ++ (LF ∷ [])

-- "only `refused,NUMBER,PLACE`", ended by LF
unfoldable pub refused_line : Cause → ℕ → List ℕ
refused_line cause place = bytes "refused," ++ decimalℕ (number cause) ++ (comma ∷ decimalℕ place) ++ (LF ∷ [])

-- the outcome's number, the answers taken, the steps and the wrong answers to the present question, as in the folder examples
unfoldable pub report_line : Outcome → ℕ → ℕ → List ℕ
report_line outcome taken steps =
    (bytes "outcome," ++ decimalℕ (outcome_number outcome))
    ++ (bytes ",taken," ++ decimalℕ taken)
    ++ (bytes ",steps," ++ decimalℕ steps)
    ++ (bytes ",wrong," ++ decimalℕ (wrong_answers outcome))
    ++ (LF ∷ [])
