-- The calls `write_plate` and `read_plate`: their inputs and the lent buffer at entry, to the answer and the buffer at exit.
use Rattle.std.specs.Prelude.{ℕ, List}
use Rattle.causes.specs.Answers.{Result, made, ◌>>=◌, Answer, output, lent}
use Rattle.phrases.specs.Book.{book_phrases}
use Rattle.plate.specs.Writing.{plate_bytes, plate_sized}
use Rattle.plate.specs.Plate.{plate_program}
use Rattle.listing.specs.Listing.{listing_text, listing_program}

-- the plate of a listing: 1, 2, 3 to 6 and 9, 8, 10
unfoldable pub written_plate : List ℕ → List ℕ → Result (List ℕ)
written_plate book listing = do
  phrases ← book_phrases book
  p ← listing_program phrases listing
  plate_sized (plate_bytes phrases p)

-- the listing of a plate: 1, 10, then 12, 13, 14, 8, then 15
unfoldable pub read_listing : List ℕ → List ℕ → Result (List ℕ)
read_listing book plate = do
  phrases ← book_phrases book
  p ← plate_program phrases plate
  made (listing_text p)

-- then 11
unfoldable pub write_plate_call : List ℕ → List ℕ → List ℕ → Answer × List ℕ
write_plate_call listing book buffer = lent (written_plate book listing >>= λ bs. made (output bs)) buffer

-- then 11
unfoldable pub read_plate_call : List ℕ → List ℕ → List ℕ → Answer × List ℕ
read_plate_call plate book buffer = lent (read_listing book plate >>= λ bs. made (output bs)) buffer
