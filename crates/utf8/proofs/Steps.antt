-- The bytes that the code finds due, and the step over one byte.
use Prim.Native.Nat.{ℕ, zero, suc, ◌-◌, ◌≤◌}
use mathlib.Core.Path.{◌≡◌, refl, sym, ap, ◌∙◌}
use mathlib.Core.List.{List, [], ◌∷◌}
use mathlib.Core.Bool.{true, false}
use native.Mathlib.Omega.{arith}
use lib.ListN.{length, drop, replicate, drop_of_length-le}
use lib.Dec.{eqb, eqb-suc-zero}
use Rattle.text.specs.Utf8.{Range, tail, within, letters, begins, letters_behind, ◌to◌}
use Rattle.std.specs.Prelude.{Option, Some, None}
use Rattle.utf8.specs.declared.Due.{Due}
use Rattle.utf8.specs.Due.{ranges, step_of, on_step}
use Rattle.text.proofs.Letters.{on_begun, letters-first}

module _ (n least most b : ℕ) where
  -- nothing is due: a letter begins
  pub step-begins : (r : Option Due) → n ≡ 0 → begins letters b ≡ step_of r → (s : List ℕ)
      → letters_behind (ranges n least most) (b ∷ s) ≡ on_step r s
  step-begins r e h s = rw e (letters-first b s ∙ ap (λ o. on_begun o s) h ∙ go r)
    where
      go : (r : Option Due) → on_begun (step_of r) s ≡ on_step r s
      go (Some d) = refl
      go None = refl

  pub step-wrong : (n ≡ 0 → ⊥) → within (least to most) b ≡ false → (s : List ℕ) → letters_behind (ranges n least most) (b ∷ s) ≡ false
  unfolding letters_behind
  step-wrong some h s = go n some
    where
      go : (n : ℕ) → (n ≡ 0 → ⊥) → letters_behind (ranges n least most) (b ∷ s) ≡ false
      go zero some = absurd (some refl)
      go (suc n) some = rw h

  pub step-on : (n ≡ 0 → ⊥) → within (least to most) b ≡ true → (s : List ℕ)
      → letters_behind (ranges n least most) (b ∷ s) ≡ letters_behind (ranges (n - 1) 0x80 0xBF) s
  unfolding letters_behind
  step-on some h s = go n some
    where
      tails : (n : ℕ) → replicate n tail ≡ ranges n 0x80 0xBF
      tails zero = refl
      tails (suc n) = refl

      go : (n : ℕ) → (n ≡ 0 → ⊥) → letters_behind (ranges n least most) (b ∷ s) ≡ letters_behind (ranges (n - 1) 0x80 0xBF) s
      go zero some = absurd (some refl)
      go (suc n) some = let e : suc n - 1 ≡ n = omega arith in rw (h, e, tails n)

-- whether nothing is due
pub step_end : (n least most : ℕ) → letters_behind (ranges n least most) [] ≡ eqb n 0
unfolding letters_behind
step_end zero least most = refl
step_end (suc n) least most = sym (eqb-suc-zero n)

pub at-end : (s : List ℕ) (i : ℕ) (due : List Range) → length s ≤ i → letters_behind due (drop i s) ≡ letters_behind due []
at-end s i due h = rw (drop_of_length-le s h)
