-- The number of an own phrase, which the code enters behind the index of the book while it checks the text.
use Rattle.std.specs.Prelude.{ℕ, ◌+◌, ◌-◌, ◌*◌, ◌≤◌, ◌<◌, ◌≡◌, List, length, take, drop, get_or, set}
use Rattle.causes.specs.Limits.{most_own}
use Rattle.phrases.specs.Lookup.{book_texts}
use Rattle.phrases.specs.Index.{entries_at, Indexed}
use Rattle.phrases.specs.Own.{own_places, own_number, OwnNumbers, OwnKept}
use Rattle.lines.specs.declared.Form.{Form}
use Rattle.lines.specs.declared.Form.TheVariants.{Guide, Listing}
use Rattle.lines.specs.declared.Head.{Head}
use Rattle.lines.specs.declared.Head.TheVariants as head

-- the numbers behind a line with this head that stands from a to e in the text: that of own phrase k is entered where it is a phrase
unfoldable pub entered : Head → ℕ → ℕ → ℕ → List ℕ → List ℕ → List ℕ
entered head.Phrase k a e text index =
    set index (entries_at + get_or index 0 0 + k) (own_number (a + 7) (take (e - (a + 7)) (drop (a + 7) text)))
entered (head.Input r) k a e text index = index
entered (head.Inputs r n) k a e text index = index
entered head.Print k a e text index = index
entered head.Printex k a e text index = index
entered (head.If t) k a e text index = index
entered head.Else k a e text index = index
entered head.Fi k a e text index = index
entered (head.Goto j) k a e text index = index
entered (head.IfSkip t j) k a e text index = index

-- the room for the numbers of own phrases behind the index: a guide has none
abbrev pub own_room : Form → ℕ
own_room Guide = 0
own_room Listing = most_own

-- what the number of own phrase k takes
pub record Enters (k a e : ℕ) (text index : List ℕ) : Type 0 where
  pub place : entries_at + get_or index 0 0 + k < length index
  pub near : a + 7 < own_places
  pub start : a + 7 ≤ e
  pub end : e ≤ length text
  pub short : e < a + 135

-- the numbers of the first `own` lines of n lines before the place a, where `first` were lent; as long as all lines are phrases, each has
-- at most 72 bytes
pub record Numbered (form : Form) (book text first index : List ℕ) (own n a : ℕ) : Type 0 where
  pub indexed : Indexed index book
  pub size : length index ≡ length first
  pub room : entries_at + own_room form + length (book_texts book) ≤ length index
  pub numbers : OwnNumbers index book text own
  pub kept : OwnKept book first index
  pub few : own ≤ most_own
  pub among : own ≤ n
  pub near : n ≡ own → a ≤ 72 * n
