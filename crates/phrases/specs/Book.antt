-- Document 01, "Guide lines": "The phrase book is lent beside it: up to 256 different texts, each ended by LF; it may be empty."
use Rattle.std.specs.Prelude.{ℕ, suc, List, [], ◌∷◌, ◌++◌, Bool, true, false, ◌&&◌, length, ltb}
use Rattle.causes.specs.Answers.{Result, made, refused}
use Rattle.causes.specs.Limits.{most_phrases}
use Rattle.causes.specs.declared.Cause.TheVariants.{Book}
use Rattle.text.specs.Parts.{split, LF}
use Rattle.text.specs.Text.{Text, is_text}
use Rattle.phrases.specs.Phrases.{is_new}

-- a good line behind the earlier phrases: a text, different from each of them, and not the 257th
abbrev pub is_next : List Text → Text → Bool
is_next earlier t = is_text t && is_new [] earlier t && ltb (length earlier) most_phrases

-- what stands behind the last LF: nothing, or a last line without LF, which is bad
abbrev pub book_end : List Text → Text → Result (List Text)
book_end earlier [] = made earlier
book_end earlier (b ∷ t) = refused Book (suc (length earlier))

-- the phrases of a book whose earlier lines are good; "1 at the first bad line (the 257th and a last one without LF are bad)"
unfoldable pub phrases_from : List Text → List Text → Result (List Text)
phrases_from earlier [] = made earlier
phrases_from earlier (t ∷ []) = book_end earlier t
phrases_from earlier (t ∷ u ∷ ts) =
    elim (is_next earlier t) [
      | true ↦ phrases_from (earlier ++ (t ∷ [])) (u ∷ ts)
      | false ↦ refused Book (suc (length earlier))
    ]

-- the phrases of a book, or cause 1 with its first bad line
unfoldable pub book_phrases : List ℕ → Result (List Text)
book_phrases book = phrases_from [] (split LF book)

-- the good lines in front of the first bad one, behind earlier good ones
unfoldable pub good_from : List Text → List Text → List Text
good_from earlier [] = earlier
good_from earlier (t ∷ []) = earlier
good_from earlier (t ∷ u ∷ ts) =
    elim (is_next earlier t) [ true ↦ good_from (earlier ++ (t ∷ [])) (u ∷ ts) | false ↦ earlier ]

-- the texts of a book's lines in front of its first bad one: all of them where it has none
unfoldable pub good_texts : List ℕ → List Text
good_texts book = good_from [] (split LF book)
