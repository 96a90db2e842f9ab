-- Document 01, "Guide lines" and "Plate bits": phrases, those of the book and the own ones.
use Rattle.std.specs.Prelude.{ℕ, zero, suc, ◌^◌, List, [], ◌∷◌, Bool, true, false, cond, leb, Option, Some, None}
use Rattle.text.specs.Parts.{same}
use Rattle.text.specs.Text.{Text}

-- the phrases that a text is looked up among
pub record Phrases : Type 0 where
  pub book : List Text
  pub own : List Text

-- a phrase by its place from 0 in the book or among the own phrases, or no phrase
pub data Where : Type 0 where
  in_book in_own : ℕ → Where
  nowhere : Where

-- one place further on
abbrev pub one_more : Option ℕ → Option ℕ
one_more None = None
one_more (Some i) = Some (suc i)

-- the first place of a text among texts, from 0
unfoldable pub place : List Text → Text → Option ℕ
place [] t = None
place (p ∷ ps) t = cond (same t p) (Some 0) (one_more (place ps t))

-- a place in the book, else one among the own phrases
abbrev pub book_first : Option ℕ → Option ℕ → Where
book_first (Some i) own = in_book i
book_first None (Some i) = in_own i
book_first None None = nowhere

-- where a text stands as a phrase
unfoldable pub find : Phrases → Text → Where
find c t = book_first (place c.book t) (place c.own t)

-- whether a text is no phrase
abbrev pub is_nowhere : Where → Bool
is_nowhere (in_book i) = false
is_nowhere (in_own i) = false
is_nowhere nowhere = true

-- "different from each other and from the book's": none of the book's phrases, and none of the earlier ones
abbrev pub is_new : List Text → List Text → Text → Bool
is_new book earlier t = is_nowhere (find (record { book = book; own = earlier }) t)

-- the least number of bits from w on, of f tries, that numbers n phrases
unfoldable pub width_from : ℕ → ℕ → ℕ → ℕ
width_from zero w n = w
width_from (suc f) w n = elim (leb n (2 ^ w)) [ true ↦ w | false ↦ width_from f (suc w) n ]

-- "in the fewest bits that number all the phrases there: 18 need 5, one needs 0"
unfoldable pub width : ℕ → ℕ
width n = width_from n 0 n
