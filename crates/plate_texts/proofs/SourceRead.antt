-- Where a phrase is looked up, as the code reads it: in the book, or among the own phrases.
use Prim.Native.Nat.{ℕ, zero, suc, ◌+◌, ◌≤◌, ◌<◌}
use mathlib.Core.Path.{◌≡◌, refl, sym, ap, subst}
use mathlib.Core.List.{List, [], ◌∷◌}
use mathlib.Core.Bool.{Bool, true, false, cond}
use native.Mathlib.Omega.{arith}
use lib.ListN.{length, take, drop}
use lib.Dec.{leb}
use Rattle.causes.specs.declared.Cause.TheVariants.{PlateEnds}
use Rattle.bits.specs.Bits.{value_of}
use Rattle.text.specs.Text.{Text}
use Rattle.plate.specs.Reading.{Place, Read, got, stopped, number, return, onward, ◌>>=◌}
use Rattle.plate.specs.Plate.{phrase_at, phrase_by, phrase}
use Rattle.fields.specs.Places.{place_at}
use Rattle.plate_texts.specs.Sources.{source_by, source}

-- ---- what is read

pub only-own : (texts count : ℕ) (p : Place) → texts ≡ 0 → got (true, count) p ≡ source texts count p
unfolding source return
only-own zero count p h = refl
only-own (suc n) count p h = absurd (omega arith)

pub only-book : (texts count : ℕ) (p : Place) → (texts ≡ 0 → ⊥) → count ≡ 0 → got (false, texts) p ≡ source texts count p
unfolding source return
only-book zero count p h k = absurd (h refl)
only-book (suc n) zero p h k = refl
only-book (suc n) (suc m) p h k = absurd (omega arith)

pub both : (texts count : ℕ) (p : Place) → (texts ≡ 0 → ⊥) → (count ≡ 0 → ⊥)
    → (number 1 >>= (λ b. return (source_by texts count b))) p ≡ source texts count p
unfolding source
both zero count p h k = absurd (h refl)
both (suc n) zero p h k = absurd (k refl)
both (suc n) (suc m) p h k = refl

-- what the bit says, behind it
pub bit-source : (plate : List ℕ) (at texts count b : ℕ) {k n : ℕ} {own : Bool} → ((own, n) ≡ source_by texts count b) × (k ≡ 3)
    → got (own, n) (place_at plate (at + k)) ≡ return (source_by texts count b) (place_at plate (at + 3))
unfolding return
bit-source plate at texts count b e = λ i. got (e.0 i) (place_at plate (at + e.1 i))

-- where a reading ends; a refusal ends nowhere
abbrev end_at : {A : Type 0} → Read A → ℕ
end_at (got a q) = q.at
end_at (stopped cause bit) = 0

near : (texts count : ℕ) (p : Place) → end_at (source texts count p) ≤ p.at + 1
unfolding source return number ◌>>=◌
near zero count p = omega arith
near (suc n) zero p = omega arith
near (suc n) (suc k) p = go (leb 1 (length p.left))
  where
    go : (b : Bool)
        → end_at (onward (cond b (got (value_of (take 1 p.left)) (record { left = drop 1 p.left; at = p.at + 1 })) (stopped PlateEnds p.at))
        (λ b. return (source_by (suc n) (suc k) b)))
        ≤ p.at + 1
    go true = omega arith
    go false = omega arith

-- the place of a phrase stands at most one bit behind its source
pub source-near : (texts count : ℕ) (plate : List ℕ) (at k : ℕ) (s : Bool × ℕ)
    → got s (place_at plate (at + k)) ≡ source texts count (place_at plate (at + 2)) → k ≤ 3
unfolding place_at
source-near texts count plate at k s e = omega (arith, ap end_at e, near texts count (place_at plate (at + 2)))

-- ---- a phrase by its source

pub by-source : (book own : List Text) (p : Place)
    → (source (length book) (length own) >>= (λ s. phrase_at (cond s.0 own book))) p ≡ phrase book own p
unfolding source return ◌>>=◌ phrase
by-source [] own p = refl
by-source (t ∷ ts) [] p = refl
by-source (t ∷ ts) (u ∷ us) p = go (number 1 p)
  where
    go : (m : Read ℕ)
        → onward (onward m (λ b. return (source_by (length (t ∷ ts)) (length (u ∷ us)) b))) (λ s. phrase_at (cond s.0 (u ∷ us) (t ∷ ts)))
        ≡ onward m (phrase_by (t ∷ ts) (u ∷ us))
    go (got zero q) = refl
    go (got (suc b) q) = refl
    go (stopped cause bit) = refl

-- a source has all the phrases of its list, which are some
pub record Sourced (book own : List Text) (is_own : Bool) (n : ℕ) : Type 0 where
  pub all : n ≡ length (cond is_own own book)
  pub some : 0 < n
  pub few : n ≤ 256

abbrev Sound : List Text → List Text → Read (Bool × ℕ) → Type 0
Sound book own (got s q) = Sourced book own s.0 s.1
Sound book own (stopped cause bit) = Unit

sound : (book own : List Text) (p : Place) → 0 < length book + length own → length book ≤ 256 → length own ≤ 256
    → Sound book own (source (length book) (length own) p)
unfolding source return ◌>>=◌
sound [] own p h b o = record { all = refl; some = omega arith; few = o }
sound (t ∷ ts) [] p h b o = record { all = refl; some = omega arith; few = b }
sound (t ∷ ts) (u ∷ us) p h b o = go (number 1 p)
  where
    go : (m : Read ℕ) → Sound (t ∷ ts) (u ∷ us) (onward m (λ b. return (source_by (length (t ∷ ts)) (length (u ∷ us)) b)))
    go (got zero q) = record { all = refl; some = omega arith; few = b }
    go (got (suc k) q) = record { all = refl; some = omega arith; few = o }
    go (stopped cause bit) = tt

pub sourced : (book own : List Text) (p : Place) → 0 < length book + length own → length book ≤ 256 → length own ≤ 256
    → {is_own : Bool} {n : ℕ} {q : Place} → got (is_own, n) q ≡ source (length book) (length own) p → Sourced book own is_own n
sourced book own p h b o e = subst (Sound book own) (sym e) (sound book own p h b o)
