-- A reading that is known to be no refusal: nor are its parts.
use Prim.Native.Nat.{ℕ, zero, suc, ◌-◌, ◌<◌}
use mathlib.Core.Path.{◌≡◌, refl, ◌∙◌}
use mathlib.Core.List.{List, ◌∷◌}
use mathlib.Core.Bool.{Bool, true, false}
use native.Mathlib.Numerals.{sub-one}
use native.Mathlib.Omega.{arith}
use Rattle.causes.specs.declared.Cause.{Cause}
use Rattle.plate.specs.Reading.{Place, Read, got, stopped, Reader, judge_read, judged, return, ◌>>=◌, many}
use Rattle.fields.specs.Places.{place_at, Known}
use Rattle.fields.proofs.Onward.{then-got, then-stopped, judged-not}

-- the same reading
pub known_same : {A : Type 0} {m n : Read A} → m ≡ n → Known n → Known m
known_same e w = record { good = λ s. w.good (s ∙ e) }

module _ {A B : Type 0} (r : Reader A) (f : A → Reader B) (p : Place) (w : Known ((r >>= f) p)) where
  -- the first of two
  pub known-first : Known (r p)
  known-first = record { good = λ e. w.good (then-stopped r f p e) }

  -- the second, behind what was read
  pub known-then : {a : A} {q : Place} → got a q ≡ r p → Known (f a q)
  known-then e = record { good = λ s. w.good (s ∙ then-got r f p e) }

-- of several, the first and the others
module _ {A : Type 0} (r : ℕ → Reader A) (left : ℕ) (q : Place) (w : Known (many r left q)) (more : 0 < left) where
  pub known-one : Known (r (left - 1) q)
  unfolding many
  known-one = go left more w
    where
      go : (k : ℕ) → 0 < k → Known (many r k q) → Known (r (k - 1) q)
      go zero h w = absurd (omega arith)
      go (suc k) h w = rw sub-one (known-first (r k) (λ a. many r k >>= λ as'. return (a ∷ as')) q w)

  pub known-others : {a : A} {s : Place} → got a s ≡ r (left - 1) q → Known (many r (left - 1) s)
  unfolding many
  known-others {a} {s} e = go left more w e
    where
      go : (k : ℕ) → 0 < k → Known (many r k q) → got a s ≡ r (k - 1) q → Known (many r (k - 1) s)
      go zero h w e = absurd (omega arith)
      go (suc k) h w e =
          let e' = rw sub-one at e in
          rw sub-one (known-first (many r k) (λ as'. return (a ∷ as')) s
          (known-then (r k) (λ a. many r k >>= λ as'. return (a ∷ as')) q w e'))

-- a test that is known to hold changes nothing
module _ {A : Type 0} (r : Reader A) (test : A → Bool) (cause : Cause) (plate : List ℕ) (at : ℕ)
    (w : Known (judged r test cause (place_at plate at))) where
  pub known-judged : r (place_at plate at) ≡ judged r test cause (place_at plate at)
  unfolding judged
  known-judged = go (r (place_at plate at)) refl
    where
      good : (a : A) (q : Place) → got a q ≡ r (place_at plate at) → test a ≡ false → ⊥
      good a q e h = w.good (judged-not r test cause plate at e h)

      by : (a : A) (q : Place) → got a q ≡ r (place_at plate at) → (b : Bool) → test a ≡ b
          → got a q ≡ judge_read test cause (place_at plate at).at (got a q)
      by a q e true h = rw h
      by a q e false h = absurd (good a q e h)

      go : (m : Read A) → m ≡ r (place_at plate at) → m ≡ judge_read test cause (place_at plate at).at m
      go (got a q) e = by a q e (test a) refl
      go (stopped c bit) e = refl
