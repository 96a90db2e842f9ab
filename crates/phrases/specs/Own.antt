-- Numbers of own phrases, which the code keeps behind the index of the book. Document 01 says nothing of them: what is found does not
-- depend on them. The number of an own phrase has a part of its key, its length, and the place where its text starts.
use Rattle.std.specs.Prelude.{ℕ, ◌+◌, ◌*◌, ◌%◌, ◌≤◌, ◌<◌, ◌≡◌, List, [], length, take, drop, get_or}
use Rattle.causes.specs.Limits.{most_own}
use Rattle.text.specs.Parts.{split, LF}
use Rattle.text.specs.Text.{Text}
use Rattle.phrases.specs.Lookup.{book_texts, phrase_text, own_texts}
use Rattle.phrases.specs.Index.{entries_at, with_own, key, Indexed}

-- the number of an own phrase has a part of its key, its length, and a place: how many of each there are
abbrev pub own_keys : ℕ
own_keys = 8192

abbrev pub own_sizes : ℕ
own_sizes = 128

abbrev pub own_places : ℕ
own_places = 4096

-- the part of a text's number that does not depend on where the text starts; `weight` is the text's key, and `size` its length
abbrev pub sign_of : ℕ → ℕ → ℕ
sign_of weight size = weight % own_keys * own_sizes + size

-- the number of a text that starts at a place
unfoldable pub own_number : ℕ → Text → ℕ
own_number at t = sign_of (key t) (length t) * own_places + at

-- own phrase k: the TEXT of line k
unfoldable pub own_text : List ℕ → ℕ → Text
own_text own k = phrase_text (get_or (split LF own) k [])

-- where own phrase k starts, as its number behind the index of the book says
abbrev pub own_start : List ℕ → List ℕ → ℕ → ℕ
own_start index book k = get_or index (entries_at + length (book_texts book) + k) 0 % own_places

-- own phrase k has its number behind the index of the book, and its text stands at the place that the number says
pub record OwnAt (index book own : List ℕ) (k : ℕ) : Type 0 where
  pub room : entries_at + length (book_texts book) + k < length index
  pub short : length (own_text own k) < own_sizes
  pub inside : own_start index book k + length (own_text own k) ≤ length own
  pub stands : take (length (own_text own k)) (drop (own_start index book k) own) ≡ own_text own k
  pub number : get_or index (entries_at + length (book_texts book) + k) 0 ≡ own_number (own_start index book k) (own_text own k)

-- the first `count` own phrases are there, each with its number
pub record OwnNumbers (index book own : List ℕ) (count : ℕ) : Type 0 where
  pub whole : length (own_texts count own) ≡ count
  pub each : (k : ℕ) → k < count → OwnAt index book own k

-- what a lookup is lent: the index of the book, and at most 32 own phrases with their numbers
pub record Listed (index book own : List ℕ) (count : ℕ) : Type 0 where
  pub indexed : Indexed index book
  pub numbers : OwnNumbers index book own count
  pub few : count ≤ most_own

-- nothing but the 32 numbers behind the index of the book differs
pub record OwnKept (book before after : List ℕ) : Type 0 where
  pub front : take (entries_at + length (book_texts book)) after ≡ take (entries_at + length (book_texts book)) before
  pub behind : drop (with_own + length (book_texts book)) after ≡ drop (with_own + length (book_texts book)) before
