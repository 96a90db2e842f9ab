-- Document 01 before request f) of document 02: the bytes of a text, and a book's phrases.
use Rattle.std.specs.Prelude.{ℕ, suc, List, [], ◌∷◌, ◌++◌, Bool, true, false, not, ◌&&◌, length, leb, ltb, eqb}
use Rattle.causes.specs.Answers.{Result, made, refused}
use Rattle.causes.specs.Limits.{most_phrases}
use Rattle.causes.specs.declared.Cause.TheVariants.{Book}
use Rattle.text.specs.Parts.{all, comma, split, LF}
use Rattle.text.specs.Text.{Text, text_size}
use Rattle.phrases.specs.Phrases.{is_new}
use Rattle.phrases.specs.Book.{book_end}

-- "bytes are 32 to 126"; "so a text holds no comma"
abbrev pub text_byte : ℕ → Bool
text_byte b = leb 32 b && leb b 126 && not (eqb b comma)

-- "A text has 1 to 64 bytes"
unfoldable pub is_text : Text → Bool
is_text t = text_size t && all text_byte t

-- a good line of a book behind the earlier phrases
abbrev pub is_next : List Text → Text → Bool
is_next earlier t = is_text t && is_new [] earlier t && ltb (length earlier) most_phrases

-- "1 at the first bad line (the 257th and a last one without LF are bad)"
unfoldable pub phrases_from : List Text → List Text → Result (List Text)
phrases_from earlier [] = made earlier
phrases_from earlier (t ∷ []) = book_end earlier t
phrases_from earlier (t ∷ u ∷ ts) =
    elim (is_next earlier t) [
      | true ↦ phrases_from (earlier ++ (t ∷ [])) (u ∷ ts)
      | false ↦ refused Book (suc (length earlier))
    ]

-- the phrases of a book, or cause 1 with its first bad line
unfoldable pub book_phrases : List ℕ → Result (List Text)
book_phrases book = phrases_from [] (split LF book)
