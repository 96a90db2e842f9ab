-- The characters of a plate as the code reads them: of w bits, one by one up to ETX, and so many from a bit on.
use Prim.Native.Nat.{ℕ, zero, suc, ◌+◌, ◌-◌, ◌*◌, ◌^◌, ◌≤◌, ◌<◌}
use mathlib.Core.Path.{◌≡◌, refl, sym, ap, subst, ◌∙◌}
use mathlib.Core.List.{List, [], ◌∷◌, ◌++◌, append-nil}
use mathlib.Core.Bool.{Bool, true, false, ◌||◌}
use native.Mathlib.Nat.{zero-add, zero-mul, suc-mul, add-mul}
use native.Mathlib.Numerals.{add-one}
use native.Mathlib.Omega.{arith}
use lib.ListN.{length, take, drop, length-append, length-drop}
use lib.Seq.{drop-drop, take_at}
use lib.Dec.{eqb}
use borrow.Author.Tests.{lt-leb, eq-eqb, ne_eqb}
use Rattle.causes.specs.declared.Cause.{Cause}
use Rattle.causes.specs.declared.Cause.TheVariants.{PlateEnds, Spelling}
use Rattle.bits.specs.Bits.{bits_of, value_of, bytes_bits}
use Rattle.bits.proofs.Numbers.{length-bits_of, value-of-bits}
use Rattle.bits.proofs.Bytes.{length-bytes_bits}
use Rattle.text.specs.Text.{Text, text_byte}
use Rattle.plate.specs.Writing.{ETX}
use Rattle.plate.specs.Reading.{Place, Read, got, stopped, number, judged, return, onward, ◌>>=◌}
use Rattle.plate.specs.Plate.{character, up_to_etx, characters}
use Rattle.fields.specs.Places.{place_at, characters_in, until_etx, Known}
use Rattle.plate.proofs.Readers.{Told, here, gives-number, gives-judged}
use Rattle.fields.proofs.Copies.{length-characters}
use Rattle.fields.proofs.Onward.{then-got, then-stopped, judged-got, judged-not}
use Rattle.fields.proofs.Behind.{behind, behind-none, behind-behind, behind-one}

left_at : (plate : List ℕ) (at : ℕ) → length (place_at plate at).left ≡ length plate * 8 - at
unfolding place_at
left_at plate at = length-drop at (bytes_bits plate) ∙ ap (λ n. n - at) (length-bytes_bits plate)

-- a character that was read is the w bits at its place
pub record Character (w : ℕ) (plate : List ℕ) (bit c next : ℕ) : Type 0 where
  pub behind : next ≡ bit + w
  pub room : w ≤ length plate * 8 - bit
  pub value : c ≡ value_of (take w (drop bit (bytes_bits plate)))

-- the text `front` and what is read behind it are the whole text
pub record SoFar (w : ℕ) (plate : List ℕ) (at : ℕ) (front : Text) (bit : ℕ) : Type 0 where
  pub whole : behind front (until_etx w (place_at plate bit)) ≡ until_etx w (place_at plate at)

-- the characters of `size` and those behind them are the whole text
pub record SizeSoFar (w : ℕ) (plate : List ℕ) (at size bit : ℕ) : Type 0 where
  pub place : bit ≡ at + size * w
  pub text : SoFar w plate at (characters_in w size (drop at (bytes_bits plate))) bit

-- no more characters are read than were asked for
abbrev Few : ℕ → Read Text → Type 0
Few f (got t q) = length t ≤ f
Few f (stopped cause bit) = Unit

module _ {w : ℕ} (some_bits : 0 < w) where
  -- one character more
  pub characters-more : (n : ℕ) (bs : List Bool) → characters_in w (suc n) bs ≡ characters_in w n bs ++ (value_of (take w (drop (n * w) bs)) ∷ [])
  unfolding characters_in
  characters-more zero bs = rw (zero-mul w)
  characters-more (suc n) bs =
      let e : w + n * w ≡ suc n * w = omega (arith, suc-mul n w) in
      ap (λ l. value_of (take w bs) ∷ l)
      (characters-more n (drop w bs) ∙ ap (λ l. characters_in w n (drop w bs) ++ (value_of (take w l) ∷ []))
      (drop-drop (n * w) w bs ∙ ap (λ k. drop k bs) e))

  -- so many characters, and then so many more
  pub characters-split : (m n : ℕ) (bs : List Bool) → characters_in w m bs ++ characters_in w n (drop (m * w) bs) ≡ characters_in w (m + n) bs
  unfolding characters_in
  characters-split zero n bs = rw (zero-mul w) (ap (λ k. characters_in w k bs) (sym (zero-add n)))
  characters-split (suc m) n bs =
      let e : w + m * w ≡ suc m * w = omega (arith, suc-mul m w) in
      let k : suc m + n ≡ suc (m + n) = omega arith in
      let rest = characters-split m n (drop w bs) in
      rw k (ap (λ l. value_of (take w bs) ∷ l)
      (ap (λ l. characters_in w m (drop w bs) ++ characters_in w n l) (ap (λ k. drop k bs) (sym e) ∙ sym (drop-drop (m * w) w bs)) ∙ rest))

  -- ---- one character

  -- w bits are passed
  character-bits : {c : ℕ} {q : Place} (p : Place) → got c q ≡ character w p → length p.left ≡ w + length q.left
  character-bits {c} {q} p e =
      let t = subst (Told p (bits_of w) (λ a. (a < 2 ^ w) × ((eqb a ETX || text_byte a) ≡ true))) (sym e)
      ((gives-judged (λ a. eqb a ETX || text_byte a) Spelling (gives-number w)).tells p p (here p)) in
      ap length t.1.bits ∙ length-append (bits_of w c) q.left ∙ ap (λ n. n + length q.left) (length-bits_of w c)

  pub character-read : {c next : ℕ} (plate : List ℕ) (bit : ℕ) → got c (place_at plate next) ≡ character w (place_at plate bit)
      → Character w plate bit c next
  unfolding place_at
  character-read {c} {next} plate bit e =
      let p = place_at plate bit in
      let t : Told p (bits_of w) (λ a. (a < 2 ^ w) × ((eqb a ETX || text_byte a) ≡ true)) (got c (place_at plate next)) =
      subst (Told p (bits_of w) (λ a. (a < 2 ^ w) × ((eqb a ETX || text_byte a) ≡ true))) (sym e)
      ((gives-judged (λ a. eqb a ETX || text_byte a) Spelling (gives-number w)).tells p p (here p)) in
      let bits : drop bit (bytes_bits plate) ≡ bits_of w c ++ drop next (bytes_bits plate) = t.1.bits in
      let long = ap length bits ∙ length-append (bits_of w c) (drop next (bytes_bits plate)) in
      record {
        behind = omega (arith, t.1.moved, length-bits_of w c);
        room = omega (arith, long, length-bits_of w c, length-drop bit (bytes_bits plate), length-bytes_bits plate);
        value =
            sym
            (ap (λ l. value_of (take w l)) bits ∙ ap value_of (take_at (bits_of w c) (drop next (bytes_bits plate)) w (length-bits_of w c))
            ∙ value-of-bits w c t.0.0);
      }

  -- a number of w bits: ETX, a byte of a text, or neither
  module _ (plate : List ℕ) (bit c : ℕ) {q : Place} (e : got c q ≡ number w (place_at plate bit)) where
    pub character-is : (eqb c ETX || text_byte c) ≡ true → got c q ≡ character w (place_at plate bit)
    character-is h = judged-got (number w) _ Spelling plate bit e h

    pub character-not : (eqb c ETX || text_byte c) ≡ false → stopped Spelling bit ≡ character w (place_at plate bit)
    character-not h = judged-not (number w) _ Spelling plate bit e h

    pub character-end : c ≡ 3 → got c q ≡ character w (place_at plate bit)
    character-end h = character-is (rw (eq-eqb c 3 h))

    pub character-text : (c ≡ 3 → ⊥) → text_byte c ≡ true → got c q ≡ character w (place_at plate bit)
    character-text h t = character-is (rw (ne_eqb c 3 h) t)

    pub character-wrong : (c ≡ 3 → ⊥) → text_byte c ≡ false → stopped Spelling bit ≡ character w (place_at plate bit)
    character-wrong h t = character-not (rw (ne_eqb c 3 h) t)

  -- ---- up to ETX

  -- the plate ends
  no-character : (p : Place) → length p.left < w → character w p ≡ stopped PlateEnds p.at
  unfolding judged number
  no-character p h = rw (lt-leb w (length p.left) h)

  -- where no character is read
  ends-here : (p : Place) (f : ℕ) → length p.left ≤ f → {cause : Cause} {bit : ℕ} → stopped cause bit ≡ character w p
      → stopped cause bit ≡ characters w f p
  unfolding characters
  ends-here p zero h e = ap (λ m. onward m (λ c. return {A = Text} [])) (e ∙ no-character p (omega arith))
  ends-here p (suc f) h e = then-stopped (character w) (λ c. up_to_etx (eqb c ETX) c (characters w f)) p e

  -- behind a character that was read
  goes_on : (p q : Place) (f : ℕ) (c : ℕ) → got c q ≡ character w p → up_to_etx (eqb c ETX) c (characters w f) q ≡ characters w (suc f) p
  unfolding characters
  goes_on p q f c e = then-got (character w) (λ c. up_to_etx (eqb c ETX) c (characters w f)) p e

  -- as many characters as there are bits are enough
  enough : (f g : ℕ) (p : Place) → length p.left ≤ f → length p.left ≤ g → characters w f p ≡ characters w g p
  unfolding characters ◌>>=◌
  enough zero g p h k = ends-here p g k (sym (no-character p (omega arith)))
  enough (suc f) zero p h k = sym (ends-here p (suc f) h (sym (no-character p (omega arith))))
  enough (suc f) (suc g) p h k = go (character w p) refl (λ q. enough f g q)
    where
      by : (c : ℕ) (q : Place) (b : Bool) → characters w f q ≡ characters w g q → up_to_etx b c (characters w f) q ≡ up_to_etx b c (characters w g) q
      by c q true e = refl
      by c q false e = ap (λ m. onward m (λ t. return (c ∷ t))) e

      go : (m : Read ℕ) → m ≡ character w p
          → ((q : Place) → length q.left ≤ f → length q.left ≤ g → characters w f q ≡ characters w g q) → characters w (suc f) p ≡ characters w (suc g) p
      go (stopped cause bit) e same = sym (ends-here p (suc f) h e) ∙ ends-here p (suc g) k e
      go (got c q) e same =
          let fewer = character-bits p e in
          sym (goes_on p q f c e) ∙ by c q (eqb c ETX) (same q (omega arith) (omega arith)) ∙ goes_on p q g c e

  few : (f : ℕ) (p : Place) → Few f (characters w f p)
  unfolding characters ◌>>=◌ return
  few zero p = tt
  few (suc f) p = go (character w p) (few f)
    where
      longer : (c : ℕ) (m : Read Text) → Few f m → Few (suc f) (onward m (λ t. return (c ∷ t)))
      longer c (got t q) l = omega arith
      longer c (stopped cause bit) l = tt

      by : (c : ℕ) (q : Place) (b : Bool) → Few f (characters w f q) → Few (suc f) (up_to_etx b c (characters w f) q)
      by c q true l = omega arith
      by c q false l = longer c (characters w f q) l

      go : (m : Read ℕ) → ((q : Place) → Few f (characters w f q)) → Few (suc f) (onward m (λ c. up_to_etx (eqb c ETX) c (characters w f)))
      go (got c q) l = by c q (eqb c ETX) (l q)
      go (stopped cause bit) l = tt

  pub so-far-none : (plate : List ℕ) (at : ℕ) → SoFar w plate at [] at
  so-far-none plate at = record { whole = behind-none _ }

  pub so-far-joined : {plate : List ℕ} {at bit next : ℕ} {front more : Text} → SoFar w plate at front bit → SoFar w plate bit more next
      → SoFar w plate at (front ++ more) next
  so-far-joined {plate = plate} {next = next} {front = front} {more = more} s t =
      record { whole = sym (behind-behind front more (until_etx w (place_at plate next))) ∙ ap (behind front) t.whole ∙ s.whole }

  module _ {plate : List ℕ} {at bit : ℕ} {front : Text} (s : SoFar w plate at front bit) where
    -- a refusal of what is left is one of the whole
    pub so-far-behind : {cause : Cause} {b : ℕ} → stopped cause b ≡ until_etx w (place_at plate bit)
        → stopped cause b ≡ until_etx w (place_at plate at)
    so-far-behind e = ap (behind front) e ∙ s.whole

    pub so-far-stopped : {cause : Cause} {b : ℕ} → stopped cause b ≡ character w (place_at plate bit)
        → stopped cause b ≡ until_etx w (place_at plate at)
    so-far-stopped e = so-far-behind (ends-here (place_at plate bit) _ (omega arith) e)

    -- the whole is known, and so is what is left
    pub so-far-known : Known (until_etx w (place_at plate at)) → Known (until_etx w (place_at plate bit))
    so-far-known k = record { good = λ e. k.good (so-far-behind e) }

    module _ (c next : ℕ) (e : got c (place_at plate next) ≡ character w (place_at plate bit)) where
      abbrev fewer : ℕ
      fewer = length (place_at plate bit).left - 1

      on : behind front (up_to_etx (eqb c ETX) c (characters w fewer) (place_at plate next)) ≡ until_etx w (place_at plate at)
      on =
          let more : suc fewer ≡ length (place_at plate bit).left = omega (arith, character-bits (place_at plate bit) e) in
          ap (behind front) (goes_on (place_at plate bit) (place_at plate next) _ c e)
          ∙ ap (λ f. behind front (characters w f (place_at plate bit))) more ∙ s.whole

      pub so-far-ended : c ≡ 3 → got front (place_at plate next) ≡ until_etx w (place_at plate at)
      unfolding return
      so-far-ended h = ap (λ l. got l (place_at plate next)) (sym (append-nil front)) ∙ rw (eq-eqb c 3 h) at on

      pub so_far_more : (c ≡ 3 → ⊥) → SoFar w plate at (front ++ (c ∷ [])) next
      so_far_more h =
          let same = enough (length (place_at plate next).left) fewer (place_at plate next) (omega arith)
          (omega (arith, character-bits (place_at plate bit) e)) in
          record {
            whole =
                ap (behind (front ++ (c ∷ []))) same ∙ sym (behind-one front c (characters w fewer) (place_at plate next))
                ∙ rw (ne_eqb c 3 h) at on;
          }

  -- ---- the size of a text

  pub size-start : (plate : List ℕ) (at : ℕ) → SizeSoFar w plate at 0 at
  unfolding characters_in
  size-start plate at = record { place = omega arith; text = so-far-none plate at }

  module _ {plate : List ℕ} {at size bit : ℕ} (s : SizeSoFar w plate at size bit) (c next : ℕ)
      (e : got c (place_at plate next) ≡ character w (place_at plate bit)) where
    -- the characters passed, and the next one
    pub size-longer : characters_in w size (drop at (bytes_bits plate)) ++ (c ∷ []) ≡ characters_in w (size + 1) (drop at (bytes_bits plate))
    size-longer =
        let there : c ≡ value_of (take w (drop (size * w) (drop at (bytes_bits plate)))) =
        (character-read plate bit e).value ∙ ap (λ k. value_of (take w (drop k (bytes_bits plate)))) s.place
        ∙ ap (λ l. value_of (take w l)) (sym (drop-drop (size * w) at (bytes_bits plate))) in
        rw (add-one, characters-more size (drop at (bytes_bits plate)))
        (ap (λ k. characters_in w size (drop at (bytes_bits plate)) ++ (k ∷ [])) there)

    pub size-more : (c ≡ 3 → ⊥) → SizeSoFar w plate at (size + 1) next
    size-more h =
        record {
          place = omega (arith, s.place, (character-read plate bit e).behind, add-mul size 1 w);
          text = rw size-longer at (so_far_more s.text c next e h);
        }

  -- so many more, of which the whole text is made
  module _ {plate : List ℕ} {at size bit : ℕ} (s : SizeSoFar w plate at size bit) (more next : ℕ)
      (e : got (characters_in w more (drop bit (bytes_bits plate))) (place_at plate next) ≡ until_etx w (place_at plate bit)) where
    pub size-joined : got (characters_in w (size + more) (drop at (bytes_bits plate))) (place_at plate next) ≡ until_etx w (place_at plate at)
    size-joined =
        let bits : drop bit (bytes_bits plate) ≡ drop (size * w) (drop at (bytes_bits plate)) =
        ap (λ k. drop k (bytes_bits plate)) s.place ∙ sym (drop-drop (size * w) at (bytes_bits plate)) in
        let joined = ap (λ l. characters_in w size (drop at (bytes_bits plate)) ++ characters_in w more l) bits
        ∙ characters-split size more (drop at (bytes_bits plate)) in
        ap (λ l. got l (place_at plate next)) (sym joined) ∙ ap (behind (characters_in w size (drop at (bytes_bits plate)))) e ∙ s.text.whole

    pub size_few : size + more ≤ length plate * 8
    size_few =
        let l = subst (Few (length (place_at plate at).left)) (sym size-joined) (few _ (place_at plate at)) in
        omega (arith, l, length-characters w (size + more) (drop at (bytes_bits plate)), left_at plate at)
