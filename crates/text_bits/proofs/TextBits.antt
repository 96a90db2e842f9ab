-- The bits of texts, taken apart at their front.
use Prim.Native.Nat.{ℕ, ◌+◌, ◌-◌, ◌≤◌, ◌<◌}
use native.Mathlib.Omega.{arith}
use mathlib.Core.Path.{◌≡◌, refl}
use mathlib.Core.List.{List, [], ◌∷◌, ◌++◌}
use lib.ListN.{length, take, drop}
use Rattle.bits.specs.Bits.{bits_of}
use Rattle.text.specs.Parts.{until_byte, parts_from, comma}
use Rattle.text.proofs.Places.{parts_next, parts_none}
use Rattle.text.specs.Text.{Text}
use Rattle.std.specs.Prelude.{Some}
use Rattle.phrases.specs.declared.Found.{Found}
use Rattle.phrases.specs.declared.Found.TheVariants.{InBook, InOwn}
use Rattle.phrases.specs.Phrases.{Phrases, find, width}
use Rattle.phrases.specs.Lookup.{found_answer}
use Rattle.phrases.proofs.Answers.{found-is}
use Rattle.phrases.proofs.Width.{width-least}
use Rattle.plate.specs.Writing.{own_bit, text_bits, texts_bits}

-- the fields from the place a on, the first of which ends at e
module _ (c : Phrases) (line : List ℕ) (a : ℕ) where
  pub texts-next : (e : ℕ) → a ≤ length line → e ≡ a + until_byte comma (drop a line)
      → texts_bits c (parts_from comma a line) ≡ text_bits c (take (e - a) (drop a line)) ++ texts_bits c (parts_from comma (e + 1) line)
  unfolding texts_bits
  texts-next e h k = rw (parts_next comma line a e h k)

  pub texts-end : length line < a → texts_bits c (parts_from comma a line) ≡ []
  unfolding texts_bits
  texts-end h = rw (parts_none comma line a h)

-- the bit that says book or own
module _ (b : ℕ) where
  pub own-bit-no-book : (book own : List Text) → length book ≡ 0 → own_bit book own b ≡ []
  own-bit-no-book [] own h = refl
  own-bit-no-book (s ∷ ss) own h = absurd (omega arith)

  pub own-bit-no-own : (book own : List Text) → length own ≡ 0 → own_bit book own b ≡ []
  own-bit-no-own [] own h = refl
  own-bit-no-own (s ∷ ss) [] h = refl
  own-bit-no-own (s ∷ ss) (t ∷ ts) h = absurd (omega arith)

  pub own-bit-both : (book own : List Text) → (length book ≡ 0 → ⊥) → (length own ≡ 0 → ⊥) → own_bit book own b ≡ bits_of 1 b
  own-bit-both [] own h k = absurd (h refl)
  own-bit-both (s ∷ ss) [] h k = absurd (k refl)
  own-bit-both (s ∷ ss) (t ∷ ts) h k = refl

-- ---- the place of a phrase

-- a text found at f is written as source, where there is a bit for it, and i in so many bits
pub record Placed (c : Phrases) (f : Found) (source places i : ℕ) : Type 0 where
  pub low : source < 2
  pub few : places ≤ 16
  pub bits : (t : Text) → found_answer (find c t) ≡ Some f → text_bits c t ≡ bits_of 2 2 ++ own_bit c.book c.own source ++ bits_of places i

module _ (c : Phrases) (i : ℕ) {n p : ℕ} where
  pub placed-book : n ≡ length c.book → n ≤ 65536 → p ≡ width n → Placed c (InBook i) 0 p i
  unfolding text_bits
  placed-book e h k =
      record { low = omega arith; few = rw k (width-least n 16 h); bits = λ t f. rw (found-is c t f, k, e) refl }

  pub placed-own : n ≡ length c.own → n ≤ 65536 → p ≡ width n → Placed c (InOwn i) 1 p i
  unfolding text_bits
  placed-own e h k =
      record { low = omega arith; few = rw k (width-least n 16 h); bits = λ t f. rw (found-is c t f, k, e) refl }
