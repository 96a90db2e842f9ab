-- Document 01, "Walked by hand": what the program `plateshow` prints.
use Rattle.std.specs.Prelude.{ℕ, List, [], ◌++◌}
use Rattle.causes.specs.Answers.{Result, made, refused, ◌>>=◌}
use Rattle.printed.specs.Lines.{plate_line, refused_line}
use Rattle.phrases.specs.Book.{book_phrases}
use Rattle.plate.specs.Writing.{plate_bytes, plate_sized}
use Rattle.listing.specs.Listing.{listing_text}
use Rattle.guide.specs.Guide.{guide_of}
use Rattle.translating.specs.Translation.{translate_guide}

-- "takes the book as empty, and prints the listing, then `plate,` and the bytes"
unfoldable pub accepted : List ℕ → Result (List ℕ)
accepted guide = do
  phrases ← book_phrases []
  g ← guide_of phrases guide
  plate ← plate_sized (plate_bytes phrases (translate_guide g))
  made (listing_text (translate_guide g) ++ plate_line plate)

-- what is printed of a result
abbrev pub printed : Result (List ℕ) → List ℕ
printed (made text) = text
printed (refused cause place) = refused_line cause place

-- what plateshow prints for a guide
unfoldable pub shown : List ℕ → List ℕ
shown guide = printed (accepted guide)
