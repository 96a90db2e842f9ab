-- An index of a book's texts, which the code makes while it checks the book. Document 01 says nothing of it: what is found does not depend
-- on it. A text has a key, and its key names one of 128 lists. The texts are numbered from 1 here, and 0 is no text. An index is a list of
-- numbers: how many texts there are; the last text of each list; and an entry for each text, with the place where the text starts, the text
-- of its list before it, and a part of its key. So a text is compared only with those of its list that have its part of the key.
use Rattle.std.specs.Prelude.{ℕ, zero, suc, ◌+◌, ◌*◌, ◌/◌, ◌%◌, ◌≤◌, ◌<◌, ◌≡◌, List, [], ◌∷◌, ◌++◌, false, cond, length, take, get_or, eqb, Result}
use Rattle.causes.specs.Answers.{made}
use Rattle.causes.specs.declared.Refusal.{Refusal}
use Rattle.causes.specs.Limits.{most_phrases}
use Rattle.text.specs.Parts.{same}
use Rattle.text.specs.Text.{Text}
use Rattle.output.specs.Pour.{pour}
use Rattle.phrases.specs.Book.{book_phrases, good_texts}
use Rattle.phrases.specs.Lookup.{book_texts, book_answer}

-- ---- the layout: how many numbers there are of each kind

-- the lists
abbrev pub lists : ℕ
lists = 128

-- the number of texts and the lists stand in front of the entries
abbrev pub entries_at : ℕ
entries_at = 129

-- the index of a book of 256 texts
abbrev pub book_numbers : ℕ
book_numbers = 385

-- what stands in front of the entries, and the numbers of 32 own phrases
abbrev pub with_own : ℕ
with_own = 161

-- an entry has a part of a key, the number of a text, and a place in the book: how many of each there are
abbrev pub entry_keys : ℕ
entry_keys = 256

abbrev pub entry_texts : ℕ
entry_texts = 512

abbrev pub entry_places : ℕ
entry_places = 32768

-- ---- the numbers

-- the sum of bytes, each times its place; the first is at the place i
unfoldable pub weigh : ℕ → List ℕ → ℕ
weigh i [] = 0
weigh i (b ∷ bs) = b * i + weigh (suc i) bs

-- the key of a text, from its first 64 bytes
unfoldable pub key : Text → ℕ
key t = weigh 1 (take 64 t)

-- the list of a text, by its key
abbrev pub list_of : ℕ → ℕ
list_of k = k % lists

-- the part of a key that stands in an entry
abbrev pub part_of : ℕ → ℕ
part_of k = k / lists % entry_keys

-- the last text of a list, where `before` texts stand in front of these and `found` is the last of the list among them
unfoldable pub last_from : ℕ → ℕ → ℕ → List Text → ℕ
last_from list before found [] = found
last_from list before found (t ∷ ts) = last_from list (suc before) (cond (eqb (list_of (key t)) list) (suc before) found) ts

-- the last text of a list
abbrev pub last_of : ℕ → List Text → ℕ
last_of list ts = last_from list 0 0 ts

-- the last texts of n lists, from a list on
unfoldable pub lasts_from : ℕ → ℕ → List Text → List ℕ
lasts_from list zero ts = []
lasts_from list (suc n) ts = last_of list ts ∷ lasts_from (suc list) n ts

-- the entry of a text that starts at a place, behind the text `before` of its list
unfoldable pub entry : ℕ → ℕ → Text → ℕ
entry at before t = (part_of (key t) * entry_texts + before) * entry_places + at

-- the entries of texts that stand one behind the other from a place on, each ended by LF, behind earlier ones
unfoldable pub entries_from : ℕ → List Text → List Text → List ℕ
entries_from at earlier [] = []
entries_from at earlier (t ∷ ts) =
    entry at (last_of (list_of (key t)) earlier) t ∷ entries_from (suc (at + length t)) (earlier ++ (t ∷ [])) ts

-- the index of texts
unfoldable pub index_of : List Text → List ℕ
index_of ts = length ts ∷ (lasts_from 0 lists ts ++ entries_from 0 [] ts)

-- the check of a book, which leaves the index of the good lines in lent numbers
abbrev pub book_check : List ℕ → List ℕ → Result ℕ Refusal × List ℕ
book_check book index = (book_answer (book_phrases book), pour 0 (index_of (good_texts book)) index)

-- the place behind texts that stand one behind the other from a place on, each ended by LF
unfoldable pub behind : ℕ → List Text → ℕ
behind at [] = at
behind at (t ∷ ts) = behind (suc (at + length t)) ts

-- all different
abbrev pub Different : List Text → Type 0
Different ts = (i j : ℕ) → i < j → j < length ts → same (get_or ts i []) (get_or ts j []) ≡ false

-- numbers that begin with the index of a book, which is at most 256 different texts and nothing behind its last LF; every place in it is
-- below 32,768
pub record Indexed (index book : List ℕ) : Type 0 where
  pub entries : take (length (index_of (book_texts book))) index ≡ index_of (book_texts book)
  pub different : Different (book_texts book)
  pub few : length (book_texts book) ≤ most_phrases
  pub whole : behind 0 (book_texts book) ≡ length book
  pub short : length book < entry_places

-- a book whose check found no bad line, with its index, and room for the numbers of so many own phrases behind it
pub record CheckedBook (own : ℕ) (index book : List ℕ) : Type 0 where
  pub indexed : Indexed index book
  pub room : entries_at + own + length (book_texts book) ≤ length index
  pub phrases : book_phrases book ≡ made (book_texts book)
