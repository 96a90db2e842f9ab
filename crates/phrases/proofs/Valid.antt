-- Phrases that meet the rules: texts, different from the book's and from each other.
use mathlib.Core.Path.{◌≡◌}
use mathlib.Core.List.{List, [], ◌∷◌, ◌++◌}
use mathlib.Core.Bool.{true}
use Rattle.text.specs.Text.{Text}
use Rattle.text.proofs.Valid.{TextOk}
use Rattle.phrases.specs.Phrases.{is_new}

-- phrases that stand behind earlier ones
abbrev pub PhrasesOk : List Text → List Text → List Text → Type 0
PhrasesOk book earlier [] = Unit
PhrasesOk book earlier (t ∷ ts) = TextOk t × (is_new book earlier t ≡ true) × PhrasesOk book (earlier ++ (t ∷ [])) ts

abbrev pub BookOk : List Text → Type 0
BookOk book = PhrasesOk [] [] book
