-- A text that is spelled out, character by character up to ETX: written and read.
use Prim.Native.Nat.{ℕ, zero, suc, ◌^◌, ◌<◌}
use mathlib.Core.Path.{◌≡◌, refl, ap}
use mathlib.Core.List.{List, [], ◌∷◌}
use mathlib.Core.Bool.{Bool, true, false, not, ◌&&◌, ◌||◌}
use native.Mathlib.Omega.{arith}
use lib.ListN.{length, length-append}
use lib.Dec.{eqb}
use borrow.Author.Tests.{eqb-true, ne_eqb, not-true}
use Rattle.bits.specs.Bits.{bits_of}
use Rattle.bits.proofs.Numbers.{length-bits_of}
use Rattle.text.specs.Parts.{all}
use Rattle.text.specs.Text.{Text, text_size}
use Rattle.text.proofs.Tests.{and_parts, and_both}
use Rattle.phrases.specs.Phrases.{is_new}
use Rattle.text.specs.Utf8.{well_formed}
use Rattle.text.proofs.Letters.{well-ascii, well-bytes}
use Rattle.plate.specs.Writing.{ETX}
use Rattle.plate.specs.Reading.{Place, got}
use Rattle.plate.specs.Plate.{up_to_etx}
use Rattle.plate.proofs.Readers.{
  Step,
  Takes,
  Gives,
  takes-number,
  takes-judged,
  takes-return,
  takes-then,
  takes-only,
  takes-last,
  gives-number,
  gives-judged,
  gives-return,
  gives_then,
  gives_so,
}
use Rattle.text.specs.Text.{text_byte, is_plain}
use Rattle.plate.specs.Writing.{spelled_bits}
use Rattle.plate.specs.Plate.{characters, spelled, is_accented}
use Rattle.text.proofs.Valid.{TextOk}
use Rattle.text.proofs.Bytes.{text-allowed, allowed-above, text_of, text-tests}
use Rattle.plate.proofs.Widths.{Holds, seven, eight}

-- ---- characters of w bits, which hold the bytes that pass the test `fits`

module _ {w : ℕ} {fits : ℕ → Bool} (holds : Holds w fits) where
  spelled-longer : (t : Text) → length t < length (spelled_bits w t)
  unfolding spelled_bits
  spelled-longer [] = omega (arith, holds.some_bits, length-bits_of w ETX)
  spelled-longer (c ∷ t) = simp (length-append, length-bits_of) (omega (arith, holds.some_bits, spelled-longer t))

  takes-characters : (t : Text) → all text_byte t ≡ true → all fits t ≡ true → (f : ℕ) → length t < f
      → Takes (characters w f) (spelled_bits w t) t
  unfolding characters all spelled_bits
  takes-characters t h m zero k = absurd (omega arith)
  takes-characters [] h m (suc f) k = takes-only _ (takes-judged _ _ (takes-number w ETX holds.etx) refl) (takes-return [])
  takes-characters (c ∷ t) h m (suc f) k =
      let good = and_parts (text_byte c) (all text_byte t) h in
      let small = and_parts (fits c) (all fits t) m in
      let above = allowed-above c (text-allowed c good.0) in
      let other : eqb c ETX ≡ false = ne_eqb c ETX (λ e. omega arith) in
      takes-then _
      (takes-judged (λ x. eqb x ETX || text_byte x) _ (takes-number w c (holds.below c small.0)) (rw other good.0))
      (rw other (takes-last _ (takes-characters t good.1 small.1 f (omega arith))))

  -- bytes of a text that such characters hold
  abbrev Spelt : Text → Type 0
  Spelt t = (all text_byte t ≡ true) × (all fits t ≡ true)

  gives-characters : (f : ℕ) → Gives (characters w f) [] (spelled_bits w) Spelt
  unfolding characters all spelled_bits
  gives-characters zero = record { tells = λ p q s. tt }
  gives-characters (suc f) =
      gives_then (gives-judged _ _ (gives-number w)) (λ c h. go c h (eqb c ETX) refl (gives-characters f))
    where
      go : (c : ℕ) → (c < 2 ^ w) × ((eqb c ETX || text_byte c) ≡ true) → (b : Bool) → eqb c ETX ≡ b
          → Gives (characters w f) [] (spelled_bits w) Spelt
          → Gives (up_to_etx b c (characters w f)) (bits_of w c) (spelled_bits w) Spelt
      go c h true e g = gives-return [] (refl, refl) (ap (bits_of w) (eqb-true c ETX e))
      go c h false e g =
          gives_then g (λ t ht.
          gives-return (c ∷ t) (rw (rw e at h.1) ht.0, and_both (holds.fitting c h.0) ht.1) refl)

  -- as many as there are bits
  takes_all : (t : Text) → all text_byte t ≡ true → all fits t ≡ true → Takes (λ p. characters w (length p.left) p) (spelled_bits w t) t
  takes_all t h m = record { run = run }
    where
      run : (p q : Place) → Step p (spelled_bits w t) q → characters w (length p.left) p ≡ got t q
      run p q s =
          let enough : length t < length p.left =
          rw s.bits (simp length-append (omega (arith, spelled-longer t))) in
          (takes-characters t h m (length p.left) enough).run p q s

  gives_all : Gives (λ p. characters w (length p.left) p) [] (spelled_bits w) Spelt
  gives_all = record { tells = λ p q s. (gives-characters (length q.left)).tells p q s }

-- ---- 00: 7 bits

module _ (book own : List Text) where
  pub takes-spelled : (t : Text) → TextOk t → is_plain t ≡ true → is_new book own t ≡ true → Takes (spelled 7 (is_new book own)) (spelled_bits 7 t) t
  unfolding spelled
  takes-spelled t h plain new =
      let good = text-tests t h in
      takes-judged _ _ (takes_all seven t good.1 plain) (and_both good.0 new)

  pub gives-spelled : Gives (spelled 7 (is_new book own)) [] (spelled_bits 7) (λ t. TextOk t × (is_new book own t ≡ true) × (is_plain t ≡ true))
  unfolding spelled
  gives-spelled =
      gives_so (gives-judged _ _ (gives_all seven)) (λ t h.
      let tests = and_parts (text_size t) (is_new book own t) h.1 in
      ((text_of t tests.0 h.0.0 (well-ascii t h.0.1), tests.1, h.0.1), refl))

  -- ---- 01: 8 bits

  pub takes-accented : (t : Text) → TextOk t → is_plain t ≡ false → is_new book own t ≡ true → Takes (spelled 8 (is_accented book own)) (spelled_bits 8 t) t
  unfolding spelled
  takes-accented t h accents new =
      let good = text-tests t h in
      takes-judged _ _ (takes_all eight t good.1 (well-bytes t good.2))
      (and_both good.0 (and_both (and_both new good.2) (ap not accents)))

  pub gives-accented : Gives (spelled 8 (is_accented book own)) [] (spelled_bits 8) (λ t. TextOk t × (is_new book own t ≡ true) × (is_plain t ≡ false))
  unfolding spelled
  gives-accented =
      gives_so (gives-judged _ _ (gives_all eight)) (λ t h.
      let sized = and_parts (text_size t) (is_accented book own t) h.1 in
      let a = and_parts (is_new book own t && well_formed t) (not (is_plain t)) sized.1 in
      let b = and_parts (is_new book own t) (well_formed t) a.0 in
      ((text_of t sized.0 h.0.0 b.1, b.0, not-true (is_plain t) a.1), refl))
