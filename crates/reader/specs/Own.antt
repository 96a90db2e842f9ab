-- The own phrases of a plate, as the lines `phrase,TEXT` that the code writes.
use Rattle.std.specs.Prelude.{ℕ, zero, suc, ◌≤◌, ◌≡◌, List, [], ◌∷◌, ◌++◌, Bool, true, false, cond, Result, Ok, Err, length, get_or, leb}
use Rattle.causes.specs.declared.Refusal.{Refusal}
use Rattle.causes.specs.Limits.{most_plate_bytes}
use Rattle.bits.specs.Bits.{bytes_bits}
use Rattle.text.specs.Quoted.{bytes}
use Rattle.text.specs.Parts.{LF}
use Rattle.text.specs.Text.{Text}
use Rattle.phrases.specs.Lookup.{own_texts}
use Rattle.phrases.specs.Own.{Listed}
use Rattle.plate.specs.Reading.{Place, Read, got, stopped, Reader, ◌>>=◌}
use Rattle.phrases.specs.Phrases.{is_new}
use Rattle.plate.specs.Plate.{spelled, own_count, own_from}
use Rattle.fields.specs.declared.Field.{Field}
use Rattle.fields.specs.Places.{place_at}

-- "One bit: 1 if there are own phrases": whether the first bit of a plate is 1
unfoldable pub has_own : List ℕ → Bool
has_own plate = get_or (bytes_bits plate) 0 false

-- a line of an own phrase has at most 72 bytes, and there are at most 32
abbrev pub line_bytes : ℕ
line_bytes = 72

abbrev pub own_bytes : ℕ
own_bytes = 2304

-- room for these lines, if a plate has own phrases
abbrev pub OwnRoom : List ℕ → List ℕ → Type 0
OwnRoom plate own = has_own plate ≡ true → own_bytes ≤ length own

-- "`phrase,TEXT`: an own phrase", ended by LF
unfoldable pub phrase_line : Text → List ℕ
phrase_line t = bytes "phrase," ++ t ++ (LF ∷ [])

-- "One bit: 1 if there are own phrases; then 5 bits for their number less one, and each phrase"
unfoldable pub own_phrases : List Text → Reader (List Text)
own_phrases book = do
  n ← own_count
  own_from book [] n

-- own phrases that the code read, by their number and the lines that it wrote
abbrev pub own_read : List ℕ → List ℕ → Result (Field ℕ) Refusal → Read (List Text)
own_read plate own (Ok f) = got (own_texts f.value own) (place_at plate f.next)
own_read plate own (Err r) = stopped r.cause r.place

-- at most 32, each with its line, and with its number behind the index of the book
abbrev pub OwnThere : List ℕ → List ℕ → List ℕ → Result (Field ℕ) Refusal → Type 0
OwnThere index book own (Ok f) = Listed index book own f.value
OwnThere index book own (Err r) = Unit

-- the lines of own phrases, one behind the other
unfoldable pub own_lines : List Text → List ℕ
own_lines [] = []
own_lines (t ∷ ts) = phrase_line t ++ own_lines ts

-- what follows a text that was read; nothing follows a refusal
abbrev pub when_read : Read Text → (Text → Place → List Text) → List Text
when_read (got t q) f = f t q
when_read (stopped cause bit) f = []

-- the own phrases that are read before the first refusal, at most n, each judged against the book and the earlier ones
unfoldable pub own_until : List Text → List Text → ℕ → Place → List Text
own_until book earlier zero p = []
own_until book earlier (suc n) p = when_read (spelled 7 (is_new book earlier) p) (λ t q. t ∷ own_until book (earlier ++ (t ∷ [])) n q)

-- as many as their number says; none where it is refused
abbrev pub own_counted : List Text → Read ℕ → List Text
own_counted book (got n q) = own_until book [] n q
own_counted book (stopped cause bit) = []

-- the own phrases of a plate that are read before the reading stops; a plate over 2,953 bytes is not read
unfoldable pub own_stored : List Text → List ℕ → List Text
own_stored book plate = cond (leb (length plate) most_plate_bytes) (own_counted book (own_count (place_at plate 0))) []
