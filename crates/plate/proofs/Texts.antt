-- A text, spelled out or as a phrase: written and read.
use Prim.Native.Nat.{ℕ, zero, suc, ◌+◌, ◌^◌, ◌≤◌, ◌<◌}
use mathlib.Core.Path.{◌≡◌, refl, ap}
use mathlib.Core.List.{List, [], ◌∷◌, ◌++◌, append-nil, append_assoc}
use mathlib.Core.Bool.{Bool, true, false, cond, false≢true}
use Rattle.std.specs.Prelude.{Some}
use native.Mathlib.Nat.{lt_of_lt_of_le}
use native.Mathlib.Omega.{arith}
use lib.ListN.{length, get_or}
use borrow.Author.Tests.{le-leb, lt-ltb, ltb-true}
use Rattle.bits.specs.Bits.{bits_of}
use Rattle.text.specs.Parts.{all}
use Rattle.text.specs.Text.{Text}
use Rattle.text.proofs.Valid.{TextOk, TextsOk}
use Rattle.phrases.proofs.Valid.{PhrasesOk, BookOk}
use Rattle.phrases.specs.Phrases.{Phrases, Where, in_book, in_own, nowhere, find, is_nowhere, width}
use Rattle.text.proofs.Tests.{all_cons, all_first, all_rest}
use Rattle.phrases.proofs.Width.{width-enough}
use Rattle.phrases.proofs.Stands.{Stands, Finds, find-stands, new-found, phrase-is-text, found-in-own, found-in-book}
use Rattle.plate.specs.Writing.{spelled_bits, own_bit, text_bits_at, text_bits, texts_bits}
use Rattle.plate.specs.Plate.{phrase_at, phrase_by, phrase, is_text_code, text_by, text}
use Rattle.plate.proofs.Readers.{
  Takes,
  Gives,
  takes-number,
  takes-judged,
  takes-then,
  takes-last,
  gives-number,
  gives-judged,
  gives-return,
  gives_then,
  gives_so,
  OneByOne,
}
use Rattle.text.specs.Text.{is_text, is_plain}
use Rattle.plate.proofs.Spelled.{takes-spelled, gives-spelled, takes-accented, gives-accented}

-- ---- written, then read

takes-phrase_at : (ts : List Text) (t : Text) (i : ℕ) → Stands ts t (Some i) → Takes (phrase_at ts) (bits_of (width (length ts)) i) t
unfolding phrase_at
takes-phrase_at ts t i h =
    let fits : i < 2 ^ width (length ts) = lt_of_lt_of_le h.0 (width-enough (length ts)) in
    rw (← h.1) (takes-last _ (takes-judged _ _ (takes-number _ i fits) (lt-ltb i (length ts) h.0)))

takes-in-book : (book own : List Text) (t : Text) (i : ℕ) → Stands book t (Some i)
    → Takes (phrase book own) (own_bit book own 0 ++ bits_of (width (length book)) i) t
unfolding phrase
takes-in-book [] own t i h = absurd (omega (arith, h.0))
takes-in-book (b ∷ bs) [] t i h = takes-phrase_at (b ∷ bs) t i h
takes-in-book (b ∷ bs) (o ∷ os) t i h = takes-then _ (takes-number 1 0 (omega arith)) (takes-phrase_at (b ∷ bs) t i h)

takes-in-own : (book own : List Text) (t : Text) (i : ℕ) → Stands own t (Some i)
    → Takes (phrase book own) (own_bit book own 1 ++ bits_of (width (length own)) i) t
unfolding phrase
takes-in-own book [] t i h = absurd (omega (arith, h.0))
takes-in-own [] (o ∷ os) t i h = takes-phrase_at (o ∷ os) t i h
takes-in-own (b ∷ bs) (o ∷ os) t i h = takes-then _ (takes-number 1 1 (omega arith)) (takes-phrase_at (o ∷ os) t i h)

module _ (c : Phrases) where
  takes-code : {bs : List Bool} {t : Text} (code : ℕ) → code < 4 → is_text_code c code ≡ true → Takes (text_by c code) bs t
      → Takes (text c) (bits_of 2 code ++ bs) t
  unfolding text
  takes-code code h good t = takes-then _ (takes-judged _ _ (takes-number 2 code h) good) t

  pub takes-text : (t : Text) → TextOk t → Takes (text c) (text_bits c t) t
  unfolding text_bits
  takes-text t h = go (find c t) refl (find-stands c t)
    where
      go : (w : Where) → find c t ≡ w → Finds c t w → Takes (text c) (text_bits_at c t w) t
      go nowhere e f = spelt (is_plain t) refl
        where
          spelt : (v : Bool) → is_plain t ≡ v → Takes (text c) (cond v (bits_of 2 0 ++ spelled_bits 7 t) (bits_of 2 1 ++ spelled_bits 8 t)) t
          spelt true p = takes-code 0 (omega arith) refl (takes-spelled c.book c.own t h p (ap is_nowhere e))
          spelt false p = takes-code 1 (omega arith) refl (takes-accented c.book c.own t h p (ap is_nowhere e))
      go (in_book i) e f =
          let some-phrase : 1 ≤ length c.book + length c.own = omega (arith, f.0) in
          rw append_assoc (takes-code 2 (omega arith) (le-leb 1 _ some-phrase) (takes-in-book c.book c.own t i f))
      go (in_own i) e f =
          let some-phrase : 1 ≤ length c.book + length c.own = omega (arith, f.0) in
          rw append_assoc (takes-code 2 (omega arith) (le-leb 1 _ some-phrase) (takes-in-own c.book c.own t i f))

-- ---- read, then written

module _ (v : Text → List Bool) (so : Text → Type 0) where
  gives-phrase_at : {pre : List Bool} (ts : List Text)
      → ((i : ℕ) → i < length ts → so (get_or ts i []) × (pre ++ bits_of (width (length ts)) i ≡ v (get_or ts i [])))
      → Gives (phrase_at ts) pre v so
  unfolding phrase_at
  gives-phrase_at ts k =
      gives_then (gives-judged _ _ (gives-number _)) (λ i h.
      let there = k i (ltb-true i (length ts) h.1) in
      gives-return (get_or ts i []) there.0 there.1)

  -- each phrase of the list is good, and is written with this book-or-own bit
  abbrev WrittenWith : List Bool → List Text → Type 0
  WrittenWith bit ts =
      (i : ℕ) → i < length ts → so (get_or ts i []) × (bits_of 2 2 ++ bit ++ bits_of (width (length ts)) i ≡ v (get_or ts i []))

  gives-phrase : (book own : List Text) → WrittenWith (own_bit book own 0) book → WrittenWith (own_bit book own 1) own
      → Gives (phrase book own) (bits_of 2 2) v so
  unfolding phrase
  gives-phrase [] own kb ko = gives-phrase_at own (rw append-nil at ko)
  gives-phrase (b ∷ bs) [] kb ko = gives-phrase_at (b ∷ bs) (rw append-nil at kb)
  gives-phrase (b ∷ bs) (o ∷ os) kb ko = gives_then (gives-number 1) by
    where
      by : (n : ℕ) → n < 2 ^ 1 → Gives (phrase_by (b ∷ bs) (o ∷ os) n) (bits_of 2 2 ++ bits_of 1 n) v so
      by zero h = gives-phrase_at (b ∷ bs) kb
      by (suc n) h =
          let one : suc n ≡ 1 = omega arith in
          gives-phrase_at (o ∷ os) (rw one ko)

module _ (book own : List Text) (Good-book : BookOk book) (good-own : PhrasesOk book [] own) where
  pub gives-text : Gives (text (record { book = book; own = own })) [] (text_bits (record { book = book; own = own })) TextOk
  unfolding text text_bits
  gives-text = gives_then (gives-judged _ _ (gives-number 2)) by
    where
      c : Phrases
      c = record { book = book; own = own }

      by : (code : ℕ) → (code < 2 ^ 2) × (is_text_code c code ≡ true) → Gives (text_by c code) (bits_of 2 code) (text_bits c) TextOk
      by zero h = gives_so (gives-spelled book own) (λ t ht. (ht.0, rw (new-found book own t ht.1, ht.2)))
      by (suc zero) h = gives_so (gives-accented book own) (λ t ht. (ht.0, rw (new-found book own t ht.1, ht.2)))
      by (suc (suc zero)) h =
          gives-phrase _ _ book own
          (λ i hi. (phrase-is-text [] [] book Good-book i hi, rw (found-in-book book own Good-book i hi)))
          (λ i hi. (phrase-is-text book [] own good-own i hi, rw (found-in-own book own good-own i hi)))
      by (suc (suc (suc n))) h = absurd (false≢true h.1)

-- texts in a row
pub texts-in-row : (c : Phrases) → OneByOne (text_bits c) (texts_bits c) (λ n. TextOk) TextsOk
unfolding texts_bits all
texts-in-row c =
    record {
      no_bits = refl;
      bits = λ t ts. refl;
      none-good = refl;
      good = all_cons is_text;
      first_good = all_first is_text;
      rest-good = all_rest is_text;
    }
