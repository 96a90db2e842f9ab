-- The bytes of a C line in the pieces in which it is written: these two, and LF.
use Rattle.std.specs.Prelude.{ℕ, List, [], ◌∷◌, ◌++◌}
use Rattle.text.specs.Parts.{comma}
use Rattle.text.specs.Text.{Text}
use Rattle.text.specs.Quoted.{bytes}

-- the question
abbrev pub offer_bytes : Text → List ℕ
offer_bytes t = bytes "C," ++ t

-- the options, each behind a comma
unfoldable pub options_bytes : List Text → List ℕ
options_bytes [] = []
options_bytes (o ∷ os) = (comma ∷ o) ++ options_bytes os
