-- A text that is spelled out in characters of w bits, as the code judges it: by its size, then by its rule.
use Prim.Native.Nat.{ℕ, ◌+◌, ◌≤◌}
use mathlib.Core.Path.{◌≡◌, refl, sym, ap, ◌∙◌}
use mathlib.Core.List.{List, [], ◌∷◌}
use mathlib.Core.Bool.{Bool, true, false, ◌&&◌, and-false}
use native.Mathlib.Omega.{arith}
use lib.ListN.{length, drop}
use Rattle.causes.specs.declared.Cause.TheVariants.{Spelling}
use Rattle.bits.specs.Bits.{bytes_bits}
use Rattle.text.specs.Text.{Text, text_size}
use Rattle.text.proofs.Tests.{in-range}
use Rattle.phrases.specs.Phrases.{Phrases, place, find, is_new}
use Rattle.plate.specs.Reading.{Place, got, stopped}
use Rattle.plate.specs.Plate.{spelled}
use Rattle.fields.specs.Places.{place_at, characters_in, until_etx, values_of}
use Rattle.fields.proofs.Onward.{judged-got, judged-not}
use Rattle.fields.proofs.Copies.{length-characters}

-- the answer r says whether a text of so many characters has 1 to 64
abbrev Sized : ℕ → Bool → Type 0
Sized size r = (t : Text) → length t ≡ size → r ≡ text_size t

module _ (w : ℕ) (plate : List ℕ) (at size : ℕ) (r : Bool) (h : Sized size r) where
  abbrev those : Text
  those = characters_in w size (drop at (bytes_bits plate))

  sized : {b : Bool} → r ≡ b → text_size those ≡ b
  sized k = sym (h those (length-characters w size (drop at (bytes_bits plate)))) ∙ k

  pub sized-few : r ≡ true → size ≤ 64
  sized-few k = omega (arith, (in-range 1 (length those) 64 (sized k)).1, length-characters w size (drop at (bytes_bits plate)))

  module _ (rule : Text → Bool) {q : Place} (e : got those q ≡ until_etx w (place_at plate at)) where
    pub spelled-got : r ≡ true → rule (values_of (until_etx w (place_at plate at))) ≡ true → got those q ≡ spelled w rule (place_at plate at)
    unfolding spelled
    spelled-got k n =
        judged-got (until_etx w) _ Spelling plate at e
        (ap (λ b. b && rule those) (sized k) ∙ ap (λ m. rule (values_of m)) e ∙ n)

    -- of another size
    pub spelled-sized : r ≡ false → stopped Spelling at ≡ spelled w rule (place_at plate at)
    unfolding spelled
    spelled-sized k = judged-not (until_etx w) _ Spelling plate at e (ap (λ b. b && rule those) (sized k))

-- against its rule
pub spelled-not : (w : ℕ) (plate : List ℕ) (at : ℕ) (rule : Text → Bool) {t : Text} {q : Place} → got t q ≡ until_etx w (place_at plate at)
    → rule (values_of (until_etx w (place_at plate at))) ≡ false → stopped Spelling at ≡ spelled w rule (place_at plate at)
unfolding spelled
spelled-not w plate at rule {t} e n =
    judged-not (until_etx w) _ Spelling plate at e
    (ap (λ m. text_size t && rule (values_of m)) e ∙ ap (λ b. text_size t && b) n ∙ and-false (text_size t))

-- where there is no phrase, every text is new
pub none-there : (c : Phrases) (t : Text) → length c.book + length c.own ≡ 0 → is_new c.book c.own t ≡ true
unfolding place find
none-there c t e = go c.book c.own (omega arith) (omega arith)
  where
    go : (book own : List Text) → length book ≡ 0 → length own ≡ 0 → is_new book own t ≡ true
    go [] [] h k = refl
    go [] (u ∷ us) h k = absurd (omega arith)
    go (u ∷ us) own h k = absurd (omega arith)
