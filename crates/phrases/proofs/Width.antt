-- The width of phrases is the least number of bits that number them.
use Prim.Native.Nat.{ℕ, zero, suc, ◌+◌, ◌^◌, ◌≤◌, ◌<◌}
use mathlib.Core.Path.{◌≡◌, refl}
use mathlib.Core.Bool.{Bool, true, false}
use native.Mathlib.Nat.{two-pow-succ, le_trans, zero-add, lt_of_not-le}
use native.Mathlib.Omega.{arith}
use lib.Dec.{leb}
use lib.Pow.{pow_pos, pow_mono}
use borrow.Author.Tests.{leb-true, leb-false}
use Rattle.phrases.specs.Phrases.{width, width_from}

below_power : (n : ℕ) → n ≤ 2 ^ n
below_power zero = omega arith
below_power (suc n) = omega (arith, below_power n, two-pow-succ n, pow_pos n)

-- a width is w, which is enough, or is looked for from the next on
module _ (P : ℕ → Type 0) (f w n : ℕ) (stays : n ≤ 2 ^ w → P w) (goes : 2 ^ w < n → P (width_from f (suc w) n)) where
  one-try : P (width_from (suc f) w n)
  unfolding width_from
  one-try = go (leb n (2 ^ w)) refl
    where
      go : (b : Bool) → leb n (2 ^ w) ≡ b → P (elim b [ true ↦ w | false ↦ width_from f (suc w) n ])
      go true e = stays (leb-true _ _ e)
      go false e = goes (leb-false _ _ e)

enough-from : (f w n : ℕ) → n ≤ 2 ^ (f + w) → n ≤ 2 ^ width_from f w n
unfolding width_from
enough-from zero w n h = rw zero-add at h
enough-from (suc f) w n h =
    one-try (λ v. n ≤ 2 ^ v) f w n (λ k. k) (λ k. enough-from f (suc w) n (le_trans h (pow_mono (omega arith))))

pub width-enough : (n : ℕ) → n ≤ 2 ^ width n
unfolding width
width-enough n = enough-from n 0 n (le_trans (below_power n) (pow_mono (omega arith)))

least-from : (f w n v : ℕ) → w ≤ v → n ≤ 2 ^ v → width_from f w n ≤ v
unfolding width_from
least-from zero w n v h k = h
least-from (suc f) w n v h k =
    one-try (λ x. x ≤ v) f w n (λ e. h)
    (λ e. least-from f (suc w) n v (lt_of_not-le (λ le. omega (arith, pow_mono le))) k)

pub width-least : (n w : ℕ) → n ≤ 2 ^ w → width n ≤ w
unfolding width
width-least n w h = least-from n 0 n w (omega arith) h

-- fewer are not enough
pub width-more : (n w : ℕ) → 2 ^ w < n → w < width n
width-more n w h = lt_of_not-le (λ le. omega (arith, pow_mono le, width-enough n))

-- enough, and one less is not
pub width_is : (n w : ℕ) → 2 ^ w < n → n ≤ 2 ^ suc w → width n ≡ suc w
width_is n w more enough = omega (arith, width-more n w more, width-least n (suc w) enough)
