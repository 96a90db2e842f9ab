-- The bytes of a line of one text, by its letter.
use Rattle.std.specs.Prelude.{ℕ, List, [], ◌∷◌, ◌++◌}
use Rattle.text.specs.Parts.{comma, LF}
use Rattle.text.specs.Text.{Text}

-- the letter and a comma, the text, and LF
abbrev pub text_line : ℕ → Text → List ℕ
text_line letter t = ((letter ∷ comma ∷ []) ++ t) ++ (LF ∷ [])
