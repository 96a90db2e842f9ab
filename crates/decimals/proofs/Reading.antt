-- A number read digit by digit from the place i on.
use Prim.Native.Nat.{ℕ, ◌+◌, ◌*◌, ◌-◌, ◌≤◌, ◌<◌}
use native.Mathlib.Omega.{arith}
use native.Mathlib.Numerals.{add-one}
use mathlib.Core.Path.{◌≡◌, refl, sym}
use mathlib.Core.List.{List, [], ◌∷◌}
use mathlib.Core.Bool.{true, false, cond, ◌&&◌, and-true, and-false}
use Rattle.std.specs.Prelude.{Option, None, Some}
use lib.ListN.{length, drop, get_or, drop_of_length-le}
use lib.Seq.{drop-cons}
use lib.Dec.{leb}
use borrow.Author.Tests.{le-leb, lt-leb, ne_eqb}
use Rattle.text.specs.Parts.{all}
use Rattle.decimals.specs.Number.{is_digit, value_from, is_natural, natural}

-- the number that digits s make behind digits of the value n
unfoldable pub within : ℕ → ℕ → List ℕ → Option ℕ
within limit n s = cond (all is_digit s && leb (value_from n s) limit) (Some (value_from n s)) None

-- ---- how a number begins

-- not with a zero: its digits are the only rule
no_zero : (s : List ℕ) → (length s ≡ 0 → ⊥) → (get_or s 0 0 ≡ 48 → ⊥) → is_natural s ≡ all is_digit s
unfolding is_natural all
no_zero [] h n = absurd (h refl)
no_zero (b ∷ []) h n = sym (and-true (is_digit b))
no_zero (b ∷ c ∷ s) h n = rw (ne_eqb b 48 n, and-true (is_digit b))

module _ (limit : ℕ) where
  pub natural-none : (s : List ℕ) → length s ≡ 0 → natural limit s ≡ None
  unfolding natural is_natural
  natural-none [] h = refl
  natural-none (b ∷ s) h = absurd (omega arith)

  pub natural-led : (s : List ℕ) → (length s ≡ 0 → ⊥) → (length s ≡ 1 → ⊥) → get_or s 0 0 ≡ 48 → natural limit s ≡ None
  unfolding natural is_natural
  natural-led [] h k e = absurd (h refl)
  natural-led (b ∷ []) h k e = absurd (k refl)
  natural-led (b ∷ c ∷ s) h k e = rw e

  natural-within : (s : List ℕ) → (length s ≡ 0 → ⊥) → (get_or s 0 0 ≡ 48 → ⊥) → natural limit s ≡ within limit 0 s
  unfolding natural within
  natural-within s h n = rw (no_zero s h n)

  -- one digit or more, and not a zero with a digit behind it
  pub natural-starts : (s : List ℕ) → (length s ≡ 0 → ⊥) → (2 ≤ length s → get_or s 0 0 ≡ 48 → ⊥) → natural limit s ≡ within limit 0 s
  unfolding natural within is_natural all
  natural-starts [] h n = absurd (h refl)
  natural-starts (b ∷ []) h n = rw and-true
  natural-starts (b ∷ c ∷ s) h n = natural-within (b ∷ c ∷ s) h (n (omega arith))

  -- ---- how it goes on

  value_grows : (n : ℕ) (s : List ℕ) → n ≤ value_from n s
  unfolding value_from
  value_grows n [] = omega arith
  value_grows n (b ∷ s) = let l = value_grows (n * 10 + (b - 48)) s in omega arith

  pub within-past : (n : ℕ) (s : List ℕ) → limit < n → within limit n s ≡ None
  unfolding within
  within-past n s h = let l = value_grows n s in rw (lt-leb (value_from n s) limit (omega arith), and-false (all is_digit s))

  module _ (n : ℕ) (s : List ℕ) (i : ℕ) where
    pub within_end : length s ≤ i → n ≤ limit → within limit n (drop i s) ≡ Some n
    unfolding within all value_from
    within_end h k = rw (drop_of_length-le s h, le-leb n limit k)

    pub within-not : i < length s → is_digit (get_or s i 0) ≡ false → within limit n (drop i s) ≡ None
    unfolding within all
    within-not h e = rw (drop-cons s i 0 h, e)

    pub within-next : i < length s → is_digit (get_or s i 0) ≡ true → within limit n (drop i s) ≡ within limit (n * 10 + (get_or s i 0 - 48)) (drop (i + 1) s)
    unfolding within all value_from
    within-next h e = rw (drop-cons s i 0 h, add-one, e)
