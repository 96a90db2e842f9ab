-- A constant by its sign: how it is read, and how it is written.
use Prim.Native.Nat.{ℕ, zero, suc, ◌+◌, ◌-◌, ◌^◌, ◌<◌}
use native.Mathlib.Omega.{arith}
use native.Mathlib.Numerals.{add-one, sub-one}
use mathlib.Core.Path.{◌≡◌, refl}
use mathlib.Core.List.{List, [], ◌∷◌, ◌++◌}
use mathlib.Core.Bool.{true, false}
use Rattle.std.specs.Prelude.{None, Some}
use lib.ListN.{length, take, drop, get_or}
use lib.Seq.{take_all}
use lib.Dec.{leb-zero}
use lib.IntN.{ℤ, pos, negsuc, nat_abs}
use lib.Signed.{le_z, lt_z}
use mir.Syntax.{w32}
use mir.Val.{SFits, to_z, of_z, bits}
use mir.Facts.{to_z-of_z, to_z_pos, to_z-neg}
use borrow.Author.Tests.{eq-eqb, ne_eqb, ltb-true}
use Rattle.decimals.specs.Number.{natural, positive, negative, constant, decimalℕ, decimal, minus}

-- ---- how a constant is read

pub constant-none : (s : List ℕ) → length s ≡ 0 → constant s ≡ None
unfolding constant
constant-none [] h = refl
constant-none (b ∷ s) h = absurd (omega arith)

pub constant-plain : (s : List ℕ) → (length s ≡ 0 → ⊥) → (get_or s 0 0 ≡ minus → ⊥) → constant s ≡ positive (natural 2147483647 s)
unfolding constant
constant-plain [] h n = absurd (h refl)
constant-plain (b ∷ s) h n = rw (ne_eqb b minus n)

-- the number stands behind the minus
pub constant-minus : (s : List ℕ) → (length s ≡ 0 → ⊥) → get_or s 0 0 ≡ minus
    → constant s ≡ negative (natural 2147483648 (take (length s - 1) (drop 1 s)))
unfolding constant
constant-minus [] h e = absurd (h refl)
constant-minus (b ∷ s) h e = rw (eq-eqb b minus e, take_all (suc (length s) - 1) s (omega arith))

pub negative-some : (n : ℕ) → (n ≡ 0 → ⊥) → negative (Some n) ≡ Some (negsuc (n - 1))
negative-some zero h = absurd (h refl)
negative-some (suc n) h = rw sub-one

-- the bits of a number below 0
pub minus-bits : (n : ℕ) → n < 2147483648 → to_z w32 (4294967295 - n) ≡ negsuc n
minus-bits n h = let e : 4294967295 - n ≡ 2 ^ bits w32 - suc n = omega arith in rw e (to_z-neg w32 n h)

-- ---- how a constant is written

-- v is a number from 0 on, and its bits hold it
pub record Plain (v : ℤ) : Type 0 where
  pub size : ℕ
  pub held : to_z w32 (of_z w32 v) ≡ pos size
  pub small : size < 2147483648
  pub written : decimal v ≡ decimalℕ size

-- v is a number below 0, and the complement of its bits holds one less than its size
pub record Minus (v : ℤ) : Type 0 where
  pub less : ℕ
  pub held : to_z w32 (4294967295 - of_z w32 v) ≡ pos less
  pub small : less < 2147483648
  pub written : decimal v ≡ (minus ∷ []) ++ decimalℕ (less + 1)

pub plain : (v : ℤ) → SFits w32 v → le_z (pos 0) (to_z w32 (of_z w32 v)) ≡ true → Plain v
unfolding decimal
plain (pos n) f h = record { size = n; held = to_z_pos w32 f.sfits; small = f.sfits; written = refl }
plain (negsuc n) f h = let k = rw (to_z-of_z f) at h in let z : ◌≡◌ {A = ℕ} 0 1 = cc in absurd (omega arith)

pub signed : (v : ℤ) → SFits w32 v → le_z (pos 0) (to_z w32 (of_z w32 v)) ≡ false → Minus v
unfolding decimal
signed (pos n) f h = let k = rw (to_z-of_z f, leb-zero) at h in let z : ◌≡◌ {A = ℕ} 0 1 = cc in absurd (omega arith)
signed (negsuc n) f h =
    let e : 4294967295 - (2 ^ bits w32 - suc n) ≡ n = omega (arith, f.sfits) in
    record { less = n; held = rw e (to_z_pos w32 f.sfits); small = f.sfits; written = rw add-one }

-- v as its bits hold it, without its sign
abbrev size_of : ℤ → ℕ
size_of v = nat_abs (to_z w32 (of_z w32 v))

pub decimal-plain : (v : ℤ) → SFits w32 v → lt_z (to_z w32 (of_z w32 v)) (pos 0) ≡ false → decimal v ≡ decimalℕ (size_of v)
unfolding decimal
decimal-plain (pos n) f h = rw (to_z-of_z f)
decimal-plain (negsuc n) f h = let k = rw (to_z-of_z f) at h in cc

pub decimal-minus : (v : ℤ) → SFits w32 v → lt_z (to_z w32 (of_z w32 v)) (pos 0) ≡ true → decimal v ≡ (minus ∷ []) ++ decimalℕ (size_of v)
unfolding decimal
decimal-minus (pos n) f h = let k = ltb-true n 0 (rw (to_z-of_z f) at h) in absurd (omega arith)
decimal-minus (negsuc n) f h = rw (to_z-of_z f)
