-- What the calls translate and read_plate answer with an empty book and buffers that are always long enough, and what is then printed.
use Prim.Native.Nat.{ℕ, ◌≤◌}
use native.Mathlib.Omega.{arith}
use mathlib.Core.Path.{◌≡◌, refl, sym, ap, ◌∙◌}
use mathlib.Core.List.{List, [], ◌++◌}
use mathlib.Core.Bool.{Bool, true, false, cond}
use lib.ListN.{length, take, drop}
use lib.Dec.{leb}
use Rattle.causes.specs.Answers.{Result, made, refused, ◌>>=◌, Answer, wrote, refusing, written_answer}
use Rattle.causes.specs.Causes.{number}
use Rattle.causes.specs.declared.Cause.{Cause}
use Rattle.causes.specs.declared.Cause.TheVariants.{PlateTooLong}
use Rattle.causes.specs.declared.Refusal.{Refusal}
use Rattle.std.specs.Prelude.{Ok, Err}
use Rattle.std.specs.Prelude as std
use Rattle.causes.proofs.Results.{made-from}
use Rattle.causes.proofs.Lent.{written, refusal-no-length, front, written-wrote, written-fits}
use Rattle.text.specs.Parts.{split}
use Rattle.phrases.specs.Book.{phrases_from, book_phrases}
use Rattle.plate.specs.Writing.{plate_bytes, plate_sized}
use Rattle.plate.specs.Plate.{plate_program}
use Rattle.plate.proofs.RoundTrip.{written_read}
use Rattle.plate.proofs.Sized.{sized-made}
use Rattle.listing.specs.Listing.{listing_text}
use Rattle.listing.specs.Calls.{read_listing, read_plate_call}
use Rattle.listing.proofs.Sizes.{listing-short}
use Rattle.guide.specs.Block.{Block}
use Rattle.guide.specs.Guide.{guide_of}
use Rattle.translating.specs.Translation.{translate_guide}
use Rattle.translating.specs.Call.{translation, translate_call}
use Rattle.agreement.proofs.Valid.{guide-valid}
use Rattle.printed.specs.Lines.{plate_line, refused_line}
use Rattle.show.specs.Show.{accepted, shown}
use Rattle.show.proofs.RefusedLines.{guide-refused}

empty-book : book_phrases [] ≡ made []
unfolding book_phrases phrases_from split
empty-book = refl

-- the plate of a program of no book
abbrev plate_of : Block → Result (List ℕ)
plate_of g = plate_sized (plate_bytes [] (translate_guide g))

module _ (guide : List ℕ) where
  translation-of : translation [] guide ≡ (guide_of [] guide >>= plate_of)
  unfolding translation
  translation-of = rw empty-book

  accepted-of : accepted guide
      ≡ (guide_of [] guide >>= λ g. plate_of g >>= λ plate. made (listing_text (translate_guide g) ++ plate_line plate))
  unfolding accepted
  accepted-of = rw empty-book

-- ---- a refused guide

-- the line of a refused guide is printed; its place is a line of the guide, or 0
pub record Refuses (guide : List ℕ) (cause : Cause) (place : ℕ) : Type 0 where
  pub text : shown guide ≡ refused_line cause place
  pub small : place ≤ 16385

module _ (guide : List ℕ) (cause : Cause) (place : ℕ) where
  plate-refused : (g : Block) → guide_of [] guide ≡ made g → plate_of g ≡ refused cause place → Refuses guide cause place
  unfolding shown
  plate-refused g e f =
      let p = sized (leb (length (plate_bytes [] (translate_guide g))) 2953) f in
      record { text = rw (accepted-of guide, e, f); small = omega arith }
    where
      sized : (v : Bool) → cond v (made (plate_bytes [] (translate_guide g))) (refused PlateTooLong 0) ≡ refused cause place → place ≡ 0
      sized true e = cc
      sized false e = cc

  pub translation-refused : translation [] guide ≡ refused cause place → Refuses guide cause place
  unfolding shown
  translation-refused e = go (guide_of [] guide) refl (sym (translation-of guide) ∙ e)
    where
      go : (v : Result Block) → guide_of [] guide ≡ v → (v >>= plate_of) ≡ refused cause place → Refuses guide cause place
      go (made g) f e = plate-refused g f e
      go (refused c n) f e =
          let same : guide_of [] guide ≡ refused cause place = cc in
          record { text = rw (accepted-of guide, same); small = omega (arith, guide-refused [] cause place guide same) }

-- the line has the cause by its number
same_line : (c d : Cause) (m n : ℕ) → number c ≡ number d → m ≡ n → refused_line c m ≡ refused_line d n
unfolding refused_line
same_line c d m n e f = rw (e, f)

-- ---- an accepted guide

-- the plate of an accepted guide and its listing, which is read back from it
pub record Accepts (guide plate : List ℕ) : Type 0 where
  pub listing : List ℕ
  pub text : shown guide ≡ listing ++ plate_line plate
  pub size : length plate ≤ 2953
  pub reads : read_listing [] plate ≡ made listing
  pub room : length listing ≤ 327680

module _ (guide plate : List ℕ) (g : Block) (e : guide_of [] guide ≡ made g) (f : plate_of g ≡ made plate) where
  plate-made : Accepts guide plate
  unfolding shown read_listing
  plate-made =
      let p = translate_guide g in
      let s = sized-made (plate_bytes [] p) plate f in
      let ok = guide-valid [] guide g e in
      let held : plate_program [] plate ≡ made p = rw s.1 at (written_read [] p ok s.0) in
      record {
        listing = listing_text p;
        text = rw (accepted-of guide, e, f);
        size = rw s.1 at s.0;
        reads = rw (empty-book, held);
        room = listing-short [] p ok;
      }

pub translation-made : (guide plate : List ℕ) → translation [] guide ≡ made plate → Accepts guide plate
translation-made guide plate e =
    let g = made-from (guide_of [] guide) plate_of plate (sym (translation-of guide) ∙ e) in
    plate-made guide plate g.0 g.1 g.2

-- ---- the calls

-- n bytes can be lent from the front
abbrev pub Front : ℕ → List ℕ → Type 0
Front n xs = (n ≤ length xs) × (n ≡ length (take n xs))

taken-front : (result rest after : List ℕ) (n : ℕ) → n ≡ length result → after ≡ result ++ rest → (take n after ≡ result) × Front n after
taken-front result rest after n e f = let g = front result rest after n e f in (g.0, (g.1, rw g.0 e))

-- translate in a buffer of 2,953 bytes or more, which is never too short
module _ (guide buffer after : List ℕ) {x : std.Result ℕ Refusal} (e : (written_answer x, after) ≡ translate_call guide [] buffer) where
  pub turned_down : {r : Refusal} → x ≡ Err r → 2953 ≤ length buffer → Refuses guide r.cause r.place
  unfolding translate_call
  turned_down {r} f h = go (translation [] guide) refl (rw f at e)
    where
      go : (t : Result (List ℕ)) → translation [] guide ≡ t → (refusing r.cause r.place, after) ≡ written t buffer
          → Refuses guide r.cause r.place
      go (made plate) f e =
          let a = translation-made guide plate f in
          let l = written-fits (made plate) plate buffer refl (omega (arith, a.size)) in
          absurd (refusal-no-length (ap (λ (p : Answer × List ℕ). p.0) (e ∙ l)))
      go (refused c n) f e =
          let k = translation-refused guide c n f in
          let same : refusing r.cause r.place ≡ refusing c n = ap (λ (p : Answer × List ℕ). p.0) e in
          let place : n ≡ r.place = cc in
          let cause : number c ≡ number r.cause = cc in
          record { text = k.text ∙ same_line c r.cause n r.place cause place; small = omega (arith, k.small) }

  -- the plate stands at the front
  pub taken : {n : ℕ} → x ≡ Ok n → Accepts guide (take n after) × Front n after
  unfolding translate_call
  taken {n} f =
      let w = written-wrote (translation [] guide) buffer after n (sym (rw f at e)) in
      let l = taken-front w.result _ after n w.size w.laid in
      (rw l.0 (translation-made guide w.result w.makes), l.1)

-- read_plate of an accepted guide's plate in a buffer of 327,680 bytes or more
module _ (guide plate buffer after : List ℕ) (x : std.Result ℕ Refusal) (a : Accepts guide plate)
    (e : (written_answer x, after) ≡ read_plate_call plate [] buffer) (h : 327680 ≤ length buffer) where
  read_answer : ◌≡◌ {A = Answer × List ℕ} (written_answer x, after)
      (wrote (length a.listing), a.listing ++ drop (length a.listing) buffer)
  unfolding read_plate_call
  read_answer = e ∙ written-fits (read_listing [] plate) a.listing buffer a.reads (omega (arith, a.room))

  answer-is : written_answer x ≡ wrote (length a.listing)
  answer-is = ap (λ (p : Answer × List ℕ). p.0) read_answer

  pub never-refused : {r : Refusal} → x ≡ Err r → ⊥
  never-refused f = refusal-no-length (rw f at answer-is)

  -- the listing stands at the front
  pub listed : {n : ℕ} → x ≡ Ok n → (take n after ++ plate_line plate ≡ shown guide) × Front n after
  listed {n} f =
      let k : wrote n ≡ wrote (length a.listing) = rw f at answer-is in
      let size : n ≡ length a.listing = cc in
      let l = taken-front a.listing _ after n size (ap (λ (p : Answer × List ℕ). p.1) read_answer) in
      (rw l.0 (sym a.text), l.1)
