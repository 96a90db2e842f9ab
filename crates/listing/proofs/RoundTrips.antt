-- Demand 2: "With one book and buffers long enough, every accepted listing, written and read back, is the same listing; every accepted
-- plate, read and written again, is the same plate."
use Prim.Native.Nat.{ℕ, ◌≤◌, ◌<◌}
use mathlib.Core.Path.{◌≡◌, refl, ap, subst, ◌∙◌}
use mathlib.Core.List.{List, ◌++◌}
use lib.ListN.{length, get_or, take, drop}
use borrow.Author.Tests.{le-leb}
use Rattle.causes.specs.Answers.{made, wrote}
use Rattle.causes.proofs.Results.{made-from}
use Rattle.causes.proofs.Lent.{written, written-front, written-fits}
use Rattle.text.specs.Text.{Text}
use Rattle.phrases.specs.Book.{book_phrases}
use Rattle.phrases.proofs.BookValid.{book-ok}
use Rattle.plate.specs.Program.{Program}
use Rattle.plate.specs.Writing.{plate_bytes, plate_sized}
use Rattle.plate.specs.Plate.{plate_program}
use Rattle.plate.proofs.Valid.{ProgramOk}
use Rattle.plate.proofs.Sized.{sized-made}
use Rattle.plate.proofs.RoundTrip.{written_read, read-written}
use Rattle.listing.specs.Listing.{listing_text, listing_program}
use Rattle.listing.specs.Calls.{written_plate, read_listing, write_plate_call, read_plate_call}
use Rattle.listing.proofs.Listings.{listing-read, listing-written}
use Rattle.listing.proofs.Sizes.{listing-short}

-- a plate is bytes
abbrev pub Bytes : List ℕ → Type 0
Bytes bs = (i : ℕ) → get_or bs i 0 < 256

-- ---- the bytes that the calls make

module _ (book : List ℕ) (phrases : List Text) (good : book_phrases book ≡ made phrases) where
  -- a listing's program, written and read
  listing-read-back : (listing plate : List ℕ) (p : Program) → listing_program phrases listing ≡ made p
      → plate_sized (plate_bytes phrases p) ≡ made plate → read_listing book plate ≡ made listing
  unfolding read_listing
  listing-read-back listing plate p e f =
      let s = sized-made (plate_bytes phrases p) plate f in
      let l = listing-written phrases listing p e in
      rw (good, ← s.1, written_read phrases p l.0 s.0) (ap made l.1)

  module _ (plate : List ℕ) (p : Program) (bytes : Bytes plate) (read : plate_program phrases plate ≡ made p) where
    program-ok : ProgramOk phrases p × (plate_bytes phrases p ≡ plate) × (length plate ≤ 2953)
    program-ok = read-written phrases plate p bytes (book-ok book phrases good).0 read

    -- a plate's program, written as a listing and read
    plate-read-back : written_plate book (listing_text p) ≡ made plate
    unfolding written_plate
    plate-read-back =
        let r = listing-read phrases p program-ok.0 (listing-short phrases p program-ok.0) in
        rw (good, r, program-ok.1, le-leb (length plate) 2953 program-ok.2)

pub listing-again : (book listing plate : List ℕ) → written_plate book listing ≡ made plate → read_listing book plate ≡ made listing
unfolding written_plate
listing-again book listing plate e =
    let b = made-from (book_phrases book) _ plate e in
    let p = made-from (listing_program b.0 listing) _ plate b.2 in
    listing-read-back book b.0 b.1 listing plate p.0 p.1 p.2

pub plate-again : (book plate listing : List ℕ) → Bytes plate → read_listing book plate ≡ made listing
    → written_plate book listing ≡ made plate
unfolding read_listing
plate-again book plate listing bytes e =
    let b = made-from (book_phrases book) _ listing e in
    let p = made-from (plate_program b.0 plate) _ listing b.2 in
    let same : listing_text p.0 ≡ listing = cc p.2 in
    subst (λ (l : List ℕ). written_plate book l ≡ made plate) same (plate-read-back book b.0 b.1 plate p.0 bytes p.1)

-- "at most 327,680 bytes, which no accepted plate exceeds"
pub listing-most : (book plate listing : List ℕ) → Bytes plate → read_listing book plate ≡ made listing → length listing ≤ 327680
unfolding read_listing
listing-most book plate listing bytes e =
    let b = made-from (book_phrases book) _ listing e in
    let p = made-from (plate_program b.0 plate) _ listing b.2 in
    let same : listing_text p.0 ≡ listing = cc p.2 in
    subst (λ (l : List ℕ). length l ≤ 327680) same
    (listing-short b.0 p.0 (program-ok book b.0 b.1 plate p.0 bytes p.1).0)

-- ---- the calls

-- a listing written, and the n bytes that were written read back: the listing, in any buffer
pub listing-back : (book listing buffer after back : List ℕ) (n : ℕ) → write_plate_call listing book buffer ≡ (wrote n, after)
    → read_plate_call (take n after) book back ≡ written (made listing) back
unfolding write_plate_call read_plate_call
listing-back book listing buffer after back n e =
    rw (listing-again book listing (take n after) (written-front (written_plate book listing) buffer after n e).0)

-- a plate read, and the n bytes that were written as its listing made a plate again: the plate, in any buffer
pub plate-back : (book plate buffer after back : List ℕ) (n : ℕ) → Bytes plate → read_plate_call plate book buffer ≡ (wrote n, after)
    → write_plate_call (take n after) book back ≡ written (made plate) back
unfolding write_plate_call read_plate_call
plate-back book plate buffer after back n bytes e =
    rw (plate-again book plate (take n after) bytes (written-front (read_listing book plate) buffer after n e).0)

-- in a buffer long enough, the whole listing
pub listing-round-trip : (book listing buffer after back : List ℕ) (n : ℕ) → write_plate_call listing book buffer ≡ (wrote n, after)
    → length listing ≤ length back
    → read_plate_call (take n after) book back ≡ (wrote (length listing), listing ++ drop (length listing) back)
listing-round-trip book listing buffer after back n e h =
    listing-back book listing buffer after back n e ∙ written-fits (made listing) listing back refl h

-- in a buffer long enough, the whole plate
pub plate-round-trip : (book plate buffer after back : List ℕ) (n : ℕ) → Bytes plate → read_plate_call plate book buffer ≡ (wrote n, after)
    → length plate ≤ length back
    → write_plate_call (take n after) book back ≡ (wrote (length plate), plate ++ drop (length plate) back)
plate-round-trip book plate buffer after back n bytes e h =
    plate-back book plate buffer after back n bytes e ∙ written-fits (made plate) plate back refl h
