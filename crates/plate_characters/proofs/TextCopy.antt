-- A text known to be good, copied from a plate: its characters one by one, and its bytes and its end.
use Prim.Native.Nat.{ℕ, ◌<◌, ◌≤◌}
use mathlib.Core.Path.{◌≡◌, refl, ap, ◌∙◌}
use mathlib.Core.List.{List, [], ◌∷◌, ◌++◌}
use mathlib.Core.Bool.{Bool, true, false, ◌||◌}
use native.Mathlib.Omega.{arith}
use lib.ListN.{length, drop}
use lib.Dec.{eqb}
use Rattle.causes.specs.declared.Cause.{Cause}
use Rattle.causes.specs.declared.Cause.TheVariants.{Spelling}
use Rattle.output.specs.Pour.{poured}
use Rattle.output.proofs.Pour.{none, then}
use Rattle.bits.specs.Bits.{bytes_bits}
use Rattle.bits.specs.Number.{number_in}
use Rattle.std.specs.Prelude.{None}
use Rattle.text.specs.Text.{Text, text_byte}
use Rattle.plate.specs.Writing.{ETX}
use Rattle.plate.specs.Reading.{Place, Read, got, stopped, number}
use Rattle.plate.specs.Plate.{character}
use Rattle.fields.specs.Places.{place_at, until_etx, values_of, end_with, Known}
use Rattle.fields.proofs.Onward.{judged-got, judged-not, judged-stopped, number_cut}
use Rattle.fields.proofs.Behind.{behind}
use Rattle.plate_characters.proofs.Characters.{SoFar, so-far-none, so-far-joined, so-far-stopped, so-far-known, so-far-ended, so_far_more}

-- what was read is no refusal
pub got-known : {A : Type 0} {m : Read A} {a : A} {q : Place} → got a q ≡ m → Known m
got-known {m = m} {a = a} {q = q} e = record { good = λ s. never s }
  where
    never : {cause : Cause} {bit : ℕ} → stopped cause bit ≡ m → ⊥
    never s = let z : ◌≡◌ {A = ℕ} 0 1 = cc in omega arith

-- the characters passed are copied
pub record CopySoFar (w : ℕ) (plate : List ℕ) (at from : ℕ) (old : List ℕ) (end : ℕ) (out : List ℕ) (bit : ℕ) : Type 0 where
  pub front : Text
  pub text : SoFar w plate at front bit
  pub written : (end, out) ≡ poured from front old

-- the bytes of the whole text are copied, and its end is known
abbrev pub Whole : ℕ → List ℕ → ℕ → ℕ → List ℕ → ℕ → List ℕ → ℕ → Type 0
Whole w plate at from old end out next =
    ((end, out) ≡ poured from (values_of (until_etx w (place_at plate at))) old)
    × (got 0 (place_at plate next) ≡ end_with 0 (until_etx w (place_at plate at)))

module _ {w : ℕ} (some_bits : 0 < w) where
  pub copy_start : (plate : List ℕ) (at from : ℕ) (old : List ℕ) → from ≤ 18446744073709551615 → CopySoFar w plate at from old from old at
  copy_start plate at from old h = record { front = []; text = so-far-none some_bits plate at; written = none from old h }

  -- one copy behind the other
  pub copy-joined : {plate : List ℕ} {at from end bit x next : ℕ} {old out last : List ℕ} → CopySoFar w plate at from old end out bit
      → CopySoFar w plate bit end out x last next → length old < 9223372036854775808 → CopySoFar w plate at from old x last next
  copy-joined s t l =
      record {
        front = s.front ++ t.front;
        text = so-far-joined some_bits s.text t.text;
        written = then _ _ _ _ _ _ _ s.written t.written l;
      }

  -- a number where a text is known to be good is a character
  known-character : (plate : List ℕ) (bit : ℕ) {c : ℕ} {q : Place} → Known (until_etx w (place_at plate bit))
      → got c q ≡ number w (place_at plate bit) → got c q ≡ character w (place_at plate bit)
  known-character plate bit {c} {q} k e = go (eqb c ETX || text_byte c) refl
    where
      go : (b : Bool) → (eqb c ETX || text_byte c) ≡ b → got c q ≡ character w (place_at plate bit)
      go true h = judged-got (number w) _ Spelling plate bit e h
      go false h = absurd (k.good (so-far-stopped some_bits (so-far-none some_bits plate bit) (judged-not (number w) _ Spelling plate bit e h)))

  module _ {plate : List ℕ} {at from end bit : ℕ} {old out : List ℕ} (s : CopySoFar w plate at from old end out bit)
      (known : Known (until_etx w (place_at plate at))) where
    -- the text does not end without ETX
    pub copy-cut : number_in w (drop bit (bytes_bits plate)) ≡ None → ⊥
    copy-cut e = known.good (so-far-stopped some_bits s.text (judged-stopped (number w) _ Spelling plate bit (number_cut plate bit w e)))

    -- what is left
    pub copy-known : Known (until_etx w (place_at plate bit))
    copy-known = so-far-known some_bits s.text known

    pub copy_rest : {x : ℕ} {last : List ℕ} (next : ℕ) → Whole w plate bit end out x last next → length old < 9223372036854775808
        → Whole w plate at from old x last next
    copy_rest next h l =
        let e = then _ _ _ _ _ _ _ s.written h.0 l in (
          e ∙ ap (λ t. poured from t old) (values (until_etx w (place_at plate bit)) refl ∙ ap values_of s.text.whole),
          h.1 ∙ ends (until_etx w (place_at plate bit)) ∙ ap (end_with 0) s.text.whole,
        )
      where
        values : (m : Read Text) → m ≡ until_etx w (place_at plate bit) → s.front ++ values_of m ≡ values_of (behind s.front m)
        values (got t q) e = refl
        values (stopped cause b) e = absurd (copy-known.good e)

        ends : (m : Read Text) → end_with 0 m ≡ end_with 0 (behind s.front m)
        ends (got t q) = refl
        ends (stopped cause b) = refl

    module _ {c : ℕ} (next : ℕ) (e : got c (place_at plate next) ≡ number w (place_at plate bit)) where
      pub copy_ended : c ≡ 3 → Whole w plate at from old end out next
      copy_ended h =
          let t = so-far-ended some_bits s.text c next (known-character plate bit copy-known e) h in
          (s.written ∙ ap (λ m. poured from (values_of m) old) t, ap (end_with 0) t)

      pub copy_more : (c ≡ 3 → ⊥) → {x : ℕ} {last : List ℕ} → (x, last) ≡ poured end (c ∷ []) out → length old < 9223372036854775808
          → CopySoFar w plate at from old x last next
      copy_more h f l =
          record {
            front = s.front ++ (c ∷ []);
            text = so_far_more some_bits s.text c next (known-character plate bit copy-known e) h;
            written = then _ _ _ _ _ _ _ s.written f l;
          }
