-- The call: a refusal of the book or of the listing's lines, or what the plate's writer leaves.
use Prim.Native.Nat.{ℕ}
use mathlib.Core.Path.{◌≡◌}
use mathlib.Core.List.{List}
use Rattle.std.specs.Prelude.{Ok, Err}
use Rattle.causes.specs.Answers.{made, Answer, refusing}
use Rattle.causes.specs.declared.Refusal.{Refusal}
use Rattle.std.specs.Prelude.{Ok, Err}
use Rattle.phrases.specs.Book.{book_phrases}
use Rattle.phrases.specs.Lookup.{book_texts, book_answer}
use Rattle.phrases.proofs.Answers.{book-is}
use Rattle.lines.specs.declared.Form.TheVariants.{Listing}
use Rattle.lines.specs.declared.Counts.{Counts}
use Rattle.lines.specs.Answers.{seen_in, checked_answer}
use Rattle.check_lines.proofs.Answers.{accept-is}
use Rattle.listing.specs.Listing.{listing_program}
use Rattle.listing.specs.Calls.{written_plate, write_plate_call}
use Rattle.assemble.specs.LineCode.{program_in}
use Rattle.assemble.specs.Assembled.{lent_program}
use Rattle.write_plate.proofs.ListingCode.{listing-code}

module _ (listing book buffer : List ℕ) where
  pub call-book : (r : Refusal) → book_answer (book_phrases book) ≡ Err r → (refusing r.cause r.place, buffer) ≡ write_plate_call listing book buffer
  unfolding write_plate_call written_plate
  call-book r e = rw (book-is book e)

  -- a good book
  module _ (b : book_phrases book ≡ made (book_texts book)) where
    pub call-listing : (r : Refusal) → checked_answer (seen_in Listing (book_texts book) listing) ≡ Err r
        → (refusing r.cause r.place, buffer) ≡ write_plate_call listing book buffer
    unfolding write_plate_call written_plate listing_program
    call-listing r e = rw (b, accept-is Listing listing (book_texts book) e)

    -- an accepted listing, with any table of skips
    pub call-written : {k : Counts} → checked_answer (seen_in Listing (book_texts book) listing) ≡ Ok k → (ks : List ℕ) (y : Answer × List ℕ)
        → y ≡ lent_program (book_texts book) (program_in Listing ks listing k.own) buffer → y ≡ write_plate_call listing book buffer
    unfolding write_plate_call written_plate listing_program
    call-written e ks y f = rw (b, accept-is Listing listing (book_texts book) e, ← listing-code ks listing) f
