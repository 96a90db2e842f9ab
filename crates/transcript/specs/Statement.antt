-- Document 01, "Guide lines": the statements that a guide and a plate share, and the test of an if.
use Rattle.std.specs.Prelude.{ℕ, List, Bool, not, ◌&&◌, ℤ}
use Rattle.std.specs.Int.Signed.{lt_z, le_z}
use Rattle.text.specs.Text.{Text}
use Rattle.transcript.specs.declared.Op.{Op}
use Rattle.transcript.specs.declared.Op.TheVariants.{Eq, Ne, Lt, Le, Gt, Ge}

-- "`input`, `inputs`, `print` and `printex`"
pub data Statement : Type 0 where
  -- `input,R,TEXT`: a question for a whole number
  input : ℕ → Text → Statement
  -- `inputs,R,TEXT,OPTION,..`: a question with options
  inputs : ℕ → Text → List Text → Statement
  -- `print,TEXT`: shows a text
  print : Text → Statement
  -- `printex,TEXT`: shows a verdict and ends
  printex : Text → Statement

-- "OP is eq, ne, lt, le, gt or ge, comparing R's value with C"
abbrev pub compares : Op → ℤ → ℤ → Bool
compares Eq value c = le_z value c && le_z c value
compares Ne value c = not (le_z value c && le_z c value)
compares Lt value c = lt_z value c
compares Le value c = le_z value c
compares Gt value c = lt_z c value
compares Ge value c = le_z c value
