-- Where a phrase of a plate is looked up: in the book, or among the own phrases.
use Rattle.std.specs.Prelude.{ℕ, zero, suc, ◌+◌, List, Bool, true, false, Result, Ok, Err}
use Rattle.causes.specs.declared.Refusal.{Refusal}
use Rattle.phrases.specs.declared.Found.{Found}
use Rattle.phrases.specs.declared.Found.TheVariants.{InBook, InOwn}
use Rattle.plate.specs.Reading.{Read, got, stopped, Reader, number, return, ◌>>=◌}
use Rattle.fields.specs.Places.{place_at}
use Rattle.plate_texts.specs.declared.phrase_place.Source.{Source}

-- book (0) or own (1): whether the phrase is an own one, and how many phrases there are
abbrev pub source_by : ℕ → ℕ → ℕ → Bool × ℕ
source_by texts count zero = (false, texts)
source_by texts count (suc b) = (true, count)

-- "one bit says book (0) or own (1), left out where only one of the two has phrases"; the book has `texts` of them, the own are `count`
unfoldable pub source : ℕ → ℕ → Reader (Bool × ℕ)
source zero count = return (true, count)
source (suc n) zero = return (false, suc n)
source (suc n) (suc k) = do
  b ← number 1
  return (source_by (suc n) (suc k) b)

-- a source that the code read, whose place stands k bits behind a bit
abbrev pub source_read : List ℕ → ℕ → Result Source Refusal → Read (Bool × ℕ)
source_read plate at (Ok s) = got (s.own, s.n) (place_at plate (at + s.k))
source_read plate at (Err r) = stopped r.cause r.place

-- the phrase at a place of a source, which is the book or the own phrases
abbrev pub place_in : Bool → ℕ → Found
place_in false i = InBook i
place_in true i = InOwn i
