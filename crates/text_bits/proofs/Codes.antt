-- A number with a text's first bits, or a phrase's place, behind it, as one number.
use Prim.Native.Nat.{ℕ, ◌+◌, ◌*◌, ◌%◌, ◌^◌, ◌≤◌, ◌<◌}
use native.Mathlib.Omega.{arith}
use native.Mathlib.Nat.{one-mul, mod-lt, mul-le-mul_left, lt_of_lt_of_le}
use mathlib.Core.Path.{◌≡◌, ◌∙◌}
use mathlib.Core.List.{◌++◌}
use lib.Arith.{digits_lt}
use lib.Pow.{pow_pos, pow_mono, shl_exact}
use Rattle.bits.specs.Bits.{bits_of}
use Rattle.bits.proofs.Fields.{bits-behind}

-- w bits of v, and behind them the first bits of a text: 00 where it is spelled in 7 bits, 01 where in 8 bits, 10 where it is a phrase, and
-- the bit that says book or own
module _ (w v : ℕ) where
  pub spelled-code : bits_of (w + 2) (v * 4) ≡ bits_of w v ++ bits_of 2 0
  spelled-code = let e : v * 4 + 0 ≡ v * 4 = omega arith in rw e at (bits-behind w 2 v 0)

  pub bytes-code : bits_of (w + 2) (v * 4 + 1) ≡ bits_of w v ++ bits_of 2 1
  bytes-code = bits-behind w 2 v 1

  pub phrase-code : bits_of (w + 2) (v * 4 + 2) ≡ bits_of w v ++ bits_of 2 2
  phrase-code = bits-behind w 2 v 2

  pub source-code : (s : ℕ) → s < 2 → bits_of (w + 3) ((v * 4 + 2) * 2 + s) ≡ bits_of w v ++ bits_of 2 2 ++ bits_of 1 s
  source-code s h =
      let wide : w + 2 + 1 ≡ w + 3 = omega arith in
      let low : s % 2 ≡ s = omega arith in
      rw (← phrase-code) (rw (wide, low) at (bits-behind (w + 2) 1 (v * 4 + 2) s))

-- a number below 2048 and at most m bits behind it, as one number
behind-most : (k m : ℕ) → k ≤ m → (v i : ℕ) → v < 2048 → v * 2 ^ k + i % 2 ^ k < 2048 * 2 ^ m
behind-most k m h v i l = lt_of_lt_of_le (digits_lt l (mod-lt i (pow_pos k))) (mul-le-mul_left 2048 (pow_mono {i = k} {j = m} h))

-- k bits behind a number: the power of two as a shift makes it, and the number of both
module _ (k : ℕ) (h : k ≤ 45) where
  pub unit-is : (1 * 2 ^ k) % 2 ^ 64 ≡ 2 ^ k
  unit-is = shl_exact 1 k 64 (omega arith) (omega arith) ∙ one-mul (2 ^ k)

  pub behind-wide : (v i : ℕ) → v < 2048 → v * 2 ^ k + i % 2 ^ k < 72057594037927936
  behind-wide = behind-most k 45 h

-- the same of the few bits of a phrase's place
module _ (k : ℕ) (h : k ≤ 16) where
  pub behind-below : (v i : ℕ) → v < 2048 → v * 2 ^ k + i % 2 ^ k < 134217728
  behind-below = behind-most k 16 h
