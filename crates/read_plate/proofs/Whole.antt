-- The call: a refusal of the book or of the plate, a buffer too short, and the whole listing.
use Prim.Native.Nat.{ℕ, ◌+◌, ◌≤◌, ◌<◌}
use native.Mathlib.Omega.{arith}
use mathlib.Core.Path.{◌≡◌, refl, sym, ap, ◌∙◌}
use mathlib.Core.List.{List, [], ◌∷◌, ◌++◌, map, append_assoc}
use lib.ListN.{length, drop, length-append}
use borrow.Author.Tests.{le-leb, lt-leb}
use Rattle.causes.specs.Answers.{made, Answer, wrote, refusing, output, lent}
use Rattle.causes.specs.declared.Cause.TheVariants.{TooShort}
use Rattle.causes.specs.declared.Refusal.{Refusal}
use Rattle.output.specs.Pour.{up_to, poured}
use Rattle.output.proofs.Pour.{pour-fits, then}
use Rattle.output.proofs.Poured.{ended, stored}
use Rattle.text.specs.Parts.{join, comma, LF}
use Rattle.std.specs.Prelude.{Err}
use Rattle.phrases.specs.Phrases.{Phrases}
use Rattle.phrases.specs.Book.{book_phrases}
use Rattle.phrases.specs.Lookup.{book_texts, book_answer, phrases_in}
use Rattle.phrases.proofs.Answers.{book-is}
use Rattle.phrases.proofs.BookValid.{book-ok}
use Rattle.plate.specs.Program.{Program}
use Rattle.plate.specs.Plate.{plate_program}
use Rattle.plate.proofs.RoundTrip.{read-written}
use Rattle.reader.specs.declared.Contents.{Contents}
use Rattle.std.specs.Prelude.{Ok, Err}
use Rattle.std.specs.Prelude as prelude
use Rattle.reader.specs.Holding.{instructions_at, program_at, program_read, Stands}
use Rattle.listing.specs.Listing.{instruction_fields, phrase_fields, program_fields, lines_text, listing_text}
use Rattle.listing.specs.Calls.{read_listing, read_plate_call}
use Rattle.listing.specs.LineSizes.{lines_room}
use Rattle.listing.proofs.LineSizes.{lines-room}
use Rattle.listing.proofs.RoundTrips.{Bytes}

-- ---- the own phrases' lines, and then the instructions' lines

lines-append : (as' bs : List (List (List ℕ))) → lines_text as' ++ lines_text bs ≡ lines_text (as' ++ bs)
unfolding lines_text
lines-append [] bs = refl
lines-append (fs ∷ as') bs =
    append_assoc (join comma fs) (LF ∷ lines_text as') (lines_text bs)
    ∙ ap (λ (s : List ℕ). join comma fs ++ (LF ∷ s)) (lines-append as' bs)

listing-lines : (p : Program) → lines_text (map phrase_fields p.own) ++ lines_text (map instruction_fields p.instructions) ≡ listing_text p
unfolding listing_text program_fields
listing-lines p = lines-append (map phrase_fields p.own) (map instruction_fields p.instructions)

pub write-listing : (plate : List ℕ) (p : Phrases) (c : Contents) (x : ℕ) (out mid : List ℕ) (y : ℕ × List ℕ)
    → (x, mid) ≡ poured 0 (lines_text (map phrase_fields p.own)) out
    → y ≡ poured x (lines_text (map instruction_fields (instructions_at plate p c.instructions c.bit))) mid
    → length out < 9223372036854775808 → y ≡ poured 0 (listing_text (program_at plate p c)) out
unfolding program_at
write-listing plate p c x out mid y e f h =
    then 0 _ _ out x mid y e f h ∙ ap (λ (b : List ℕ). poured 0 b out) (listing-lines (program_at plate p c))

-- ---- what is written, from the pass on no buffer and from the pass on the lent one

-- the first pass has found the length n
module _ (new : List ℕ) (n : ℕ) (x b : List ℕ) (h : (n, x) ≡ poured 0 new b) where
  pub too_short : (out : List ℕ) → length out < n → (refusing TooShort 0, out) ≡ lent (made (output new)) out
  too_short out l = let size = ended 0 new b n x h in rw (lt-leb (length new) (length out) (omega arith))

  pub whole : (m : ℕ) (o out : List ℕ) → (m, o) ≡ poured 0 new out → n ≤ length out → length out < 9223372036854775808
      → (wrote n, o) ≡ lent (made (output new)) out
  whole m o out k l f =
      let size : n ≡ length new = omega (arith, ended 0 new b n x h) in
      let bytes : o ≡ new ++ drop (length new) out = stored 0 new out m o k ∙ pour-fits new out (omega arith) in
      rw (le-leb (length new) (length out) (omega arith)) (λ i. (wrote (size i), bytes i))

-- a buffer with room for every line needs no first pass
pub straight : (plate : List ℕ) (p : Phrases) (c : Contents) → Stands plate p c
    → length (lines_text (map instruction_fields (program_at plate p c).instructions)) ≤ lines_room (program_at plate p c).instructions
    → (x : ℕ) (b mid : List ℕ) → (x, mid) ≡ poured 0 (lines_text (map phrase_fields p.own)) b
    → (most : ℕ) → most ≡ up_to (x + c.room) → (n : ℕ) (o out : List ℕ) → (n, o) ≡ poured 0 (listing_text (program_at plate p c)) out
    → most ≤ length out → length out < 9223372036854775808 → (wrote n, o) ≡ lent (made (output (listing_text (program_at plate p c)))) out
unfolding program_at
straight plate p c s room x b mid e most m n o out k h f =
    let new = listing_text (program_at plate p c) in
    let size = simp length-append at (ap length (listing-lines (program_at plate p c))) in
    whole new n o out k n o out k (omega (arith, ended 0 new out n o k, ended 0 _ b x mid e, s.counted, size)) f

-- ---- the book and the plate

-- the instructions of an accepted plate have the room that is counted for their lines
pub instructions-fit : (plate book : List ℕ) → book_phrases book ≡ made (book_texts book) → (own : List ℕ) (f : prelude.Result Contents Refusal)
    → program_read plate book own f ≡ plate_program (book_texts book) plate → (c : Contents) → f ≡ Ok c → Bytes plate
    → length (lines_text (map instruction_fields (program_at plate (phrases_in book own c.own) c).instructions)) ≤ lines_room (program_at plate (phrases_in book own c.own) c).instructions
instructions-fit plate book e own f k c h bytes =
    let read = sym k ∙ ap (program_read plate book own) h in
    let ok = (read-written (book_texts book) plate (program_at plate (phrases_in book own c.own) c) bytes (book-ok book (book_texts book) e).0 read).0 in
    lines-room (program_at plate (phrases_in book own c.own) c).instructions ok.room ok.instructions

-- what the call leaves
module _ (plate book out : List ℕ) where
  pub call-book : (r : Refusal) → book_answer (book_phrases book) ≡ Err r → (refusing r.cause r.place, out) ≡ read_plate_call plate book out
  unfolding read_plate_call read_listing
  call-book r e = rw (book-is book e)

  module _ (e : book_phrases book ≡ made (book_texts book)) (own : List ℕ) (f : prelude.Result Contents Refusal)
      (k : program_read plate book own f ≡ plate_program (book_texts book) plate) where
    pub call-plate : (r : Refusal) → f ≡ Err r → (refusing r.cause r.place, out) ≡ read_plate_call plate book out
    unfolding read_plate_call read_listing
    call-plate r h = rw (e, ← k, h)

    pub call-listing : (c : Contents) (y : Answer × List ℕ) → f ≡ Ok c
        → y ≡ lent (made (output (listing_text (program_at plate (phrases_in book own c.own) c)))) out → y ≡ read_plate_call plate book out
    unfolding read_plate_call read_listing
    call-listing c y h w = rw (e, ← k, h) w
