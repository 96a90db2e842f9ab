-- The phrases where they stand: a book's lines, and the lines `phrase,TEXT` at the front of a guide or listing. With the answers of the
-- book's check and of the lookup.
use Rattle.std.specs.Prelude.{ℕ, List, [], ◌∷◌, map, Bool, cond, length, get_or, take, Option, Some, None, Result, Ok, Err}
use Rattle.causes.specs.Answers as answers
use Rattle.causes.specs.Answers.{made, refused}
use Rattle.causes.specs.declared.Refusal.{Refusal}
use Rattle.text.specs.Parts.{split, LF, comma}
use Rattle.text.specs.Text.{Text}
use Rattle.phrases.specs.declared.Found.{Found}
use Rattle.phrases.specs.declared.Found.TheVariants.{InBook, InOwn}
use Rattle.phrases.specs.Phrases.{Phrases, Where, in_book, in_own, nowhere}

-- the parts that end at an LF
unfoldable pub ended : List Text → List Text
ended [] = []
ended (t ∷ []) = []
ended (t ∷ u ∷ ts) = t ∷ ended (u ∷ ts)

-- the texts of a book's lines
unfoldable pub book_texts : List ℕ → List Text
book_texts b = ended (split LF b)

-- the TEXT of a line `phrase,TEXT`
abbrev pub phrase_text : List ℕ → Text
phrase_text line = get_or (split comma line) 1 []

-- the texts of the first k lines
unfoldable pub own_texts : ℕ → List ℕ → List Text
own_texts k own = map phrase_text (take k (split LF own))

-- the phrases of a book and of a text whose first k lines are phrases
abbrev pub phrases_in : List ℕ → List ℕ → ℕ → Phrases
phrases_in b own k = record { book = book_texts b; own = own_texts k own }

-- "The text of a phrase is a part of the book or a part of the own phrases"
unfoldable pub phrase_in : List ℕ → List ℕ → Bool → ℕ → Text
phrase_in b own is_own i = cond is_own (phrase_text (get_or (split LF own) i [])) (get_or (split LF b) i [])

-- ---- answers

-- of the book's check: how many phrases it has, or the cause and its first bad line
abbrev pub book_answer : answers.Result (List Text) → Result ℕ Refusal
book_answer (made ts) = Ok (length ts)
book_answer (refused cause line) = Err (record { cause = cause; place = line })

-- of the lookup
abbrev pub found_answer : Where → Option Found
found_answer (in_book i) = Some (InBook i)
found_answer (in_own i) = Some (InOwn i)
found_answer nowhere = None
