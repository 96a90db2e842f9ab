-- A phrase by its place, as the code reads it.
use Prim.Native.Nat.{ℕ, ◌+◌, ◌≤◌, ◌<◌}
use mathlib.Core.Path.{◌≡◌, refl, sym, ap, ◌∙◌}
use mathlib.Core.List.{List, []}
use mathlib.Core.Bool.{Bool, true, false, cond}
use native.Mathlib.Omega.{arith}
use lib.ListN.{length, get_or}
use lib.Dec.{ltb}
use borrow.Author.Tests.{ltb-true}
use Rattle.causes.specs.declared.Cause.{Cause}
use Rattle.causes.specs.declared.Cause.TheVariants.{Unused}
use Rattle.bits.specs.Ahead.{ahead_in, part_ahead}
use Rattle.text.specs.Text.{Text}
use Rattle.phrases.specs.Phrases.{Phrases, width}
use Rattle.phrases.proofs.Width.{width-least}
use Rattle.phrase_lookup.specs.Found as found
use Rattle.phrase_lookup.specs.Found.{Has}
use Rattle.fields.specs.declared.Field.{Field}
use Rattle.std.specs.Prelude.{Result, Ok, Err}
use Rattle.causes.specs.declared.Refusal.{Refusal}
use Rattle.plate.specs.Reading.{Place, Read, got, stopped, Reader, number, judged, return}
use Rattle.plate.specs.Plate.{phrase_at, phrase}
use Rattle.fields.specs.Places.{place_at, field_read, Known}
use Rattle.plate_texts.specs.Sources.{source, place_in}
use Rattle.plate_texts.proofs.SourceRead.{by-source, Sourced, sourced}
use Rattle.plate_texts.proofs.Known.{known_same, known-first, known-then, known-judged}
use Rattle.plate.proofs.Readers.{gives-number, gives-judged}
use Rattle.fields.proofs.Onward.{then-got, then-stopped, got-good}
use Rattle.fields.proofs.Ahead.{known-part}

-- ---- the place

pub width_small : (n : ℕ) → n ≤ 256 → width n ≤ 8
width_small n h = width-least n 8 h

-- ---- the phrase there

-- a phrase whose place the code read
abbrev pub phrase_read : Phrases → List ℕ → Bool → Result (Field ℕ) Refusal → Read Text
phrase_read c plate is_own (Ok f) = got (found.phrase_at c (place_in is_own f.value)) (place_at plate f.next)
phrase_read c plate is_own (Err r) = stopped r.cause r.place

module _ (c : Phrases) where
  -- the texts of a source
  abbrev pub texts_of : Bool → List Text
  texts_of is_own = cond is_own c.own c.book

  text-there : (is_own : Bool) (i : ℕ) → found.phrase_at c (place_in is_own i) ≡ get_or (texts_of is_own) i []
  text-there true i = refl
  text-there false i = refl

  has-place : (is_own : Bool) (i : ℕ) → i < length (texts_of is_own) → Has c (place_in is_own i)
  has-place true i h = h
  has-place false i h = h

  -- ---- a phrase by its source, behind the two bits of a code

  module _ (plate : List ℕ) (at : ℕ) where
    abbrev here : Place
    here = place_at plate (at + 2)

    abbrev sources : Reader (Bool × ℕ)
    sources = source (length c.book) (length c.own)

    -- a source is one of the book's texts and of the own ones
    pub source-alike : {texts count : ℕ} → texts ≡ length c.book → count ≡ length c.own → source texts count here ≡ sources here
    source-alike t k = λ i. source (t i) (k i) here

    pub source-stopped : {cause : Cause} {bit : ℕ} → stopped cause bit ≡ sources here → stopped cause bit ≡ phrase c.book c.own here
    source-stopped e = then-stopped _ (λ s. phrase_at (texts_of s.0)) here e ∙ by-source c.book c.own here

    -- where the phrase is known to be good, its source is
    pub source-known : Known (phrase c.book c.own here) → Known (sources here)
    source-known w = known-first _ _ _ (known_same (by-source c.book c.own here) w)

    module _ (is_own : Bool) (n k : ℕ) (e : got (is_own, n) (place_at plate (at + k)) ≡ sources here)
        (s : Sourced c.book c.own is_own n) where
      abbrev judged_place : Read ℕ
      judged_place = judged (number (width n)) (λ i. ltb i n) Unused (place_at plate (at + k))

      place-there : (f : Result (Field ℕ) Refusal) → field_read plate f ≡ judged_place
          → phrase_read c plate is_own f ≡ phrase_at (texts_of is_own) (place_at plate (at + k))
      unfolding phrase_at return
      place-there (Ok f) j =
          let j' = rw s.all at j in
          ap (λ t. got t (place_at plate f.next)) (text-there is_own f.value)
          ∙ then-got _ (λ i. return (get_or (texts_of is_own) i [])) (place_at plate (at + k)) j'
      place-there (Err r) j = let j' = rw s.all at j in then-stopped _ (λ i. return (get_or (texts_of is_own) i [])) (place_at plate (at + k)) j'

      -- the phrase at a place that the code read and judged
      pub phrase-read : (f : Result (Field ℕ) Refusal) → field_read plate f ≡ judged_place
          → phrase_read c plate is_own f ≡ phrase c.book c.own here
      phrase-read f j = place-there f j
          ∙ then-got _ (λ s. phrase_at (texts_of s.0)) here e
          ∙ by-source c.book c.own here

      -- there is one
      pub place-good : (i next : ℕ) → got i (place_at plate next) ≡ judged_place → Has c (place_in is_own i)
      place-good i next j =
          let below = (got-good _ (gives-judged (λ i. ltb i n) Unused (gives-number (width n))) j).1 in
          has-place is_own i (omega (arith, ltb-true i n below, s.all))

      -- where the phrase is known to be good, its place is
      place-known : Known (phrase c.book c.own here) → Known judged_place
      unfolding phrase_at
      place-known w =
          rw s.all (known-first _ _ _
          (known-then _ (λ s. phrase_at (texts_of s.0)) here (known_same (by-source c.book c.own here) w) e))

      -- the place is the part of what was read ahead
      pub place-part : (ahead : ℕ) → ahead ≡ ahead_in plate at → k ≤ 3 → Known (phrase c.book c.own here)
          → {w i : ℕ} → w ≡ width n → i ≡ part_ahead k w ahead → got i (place_at plate (at + k + w)) ≡ judged_place
      place-part ahead a near known {w} {i} wide part =
          let same = known-judged (number (width n)) _ Unused plate (at + k) (place-known known) in
          let few : k + width n ≤ 25 = omega (arith, width_small n s.few) in
          ap (λ i. got i (place_at plate (at + k + w))) part
          ∙ ap (λ w. got (part_ahead k w ahead) (place_at plate (at + k + w))) wide
          ∙ sym (known-part plate ahead at k (width n) a few (known_same same (place-known known))) ∙ same

    pub source-good : (is_own : Bool) (n k : ℕ) → got (is_own, n) (place_at plate (at + k)) ≡ sources here
        → 0 < length c.book + length c.own → length c.book ≤ 256 → length c.own ≤ 256 → Sourced c.book c.own is_own n
    source-good is_own n k e some b o = sourced c.book c.own here some b o e
