-- A constant's tests and its two's complement.
use Prim.Native.Nat.{ℕ, ◌-◌, ◌%◌, ◌^◌, ◌≤◌}
use native.Mathlib.Omega.{arith}
use mathlib.Core.Path.{◌≡◌, sym, ◌∙◌}
use mathlib.Core.Bool.{true}
use lib.IntN.{ℤ, pos, negsuc}
use borrow.Author.Tests.{leb-true}
use Rattle.bits.specs.Bits.{bits_of}
use Rattle.bits.proofs.Numbers.{length-bits_of, value-of-low-bits, same-value}
use Rattle.text.proofs.Tests.{and_parts}
use Rattle.plate.specs.Writing.{complement, is_short}

-- numbers with the same remainder have the same lowest bits
low_bits : (w v u : ℕ) → v % 2 ^ w ≡ u % 2 ^ w → bits_of w v ≡ bits_of w u
low_bits w v u e =
    same-value (bits_of w v) (bits_of w u) (length-bits_of w v ∙ sym (length-bits_of w u)) (value-of-low-bits w v ∙ e ∙ sym (value-of-low-bits w u))

-- the lowest 16 bits of a short constant
pub short-bits : (c : ℤ) → is_short c ≡ true → bits_of 16 (complement 32 c) ≡ bits_of 16 (complement 16 c)
short-bits (pos n) h = low_bits 16 n n (omega arith)
short-bits (negsuc n) h =
    let small : n ≤ 32767 = leb-true n 32767 (and_parts _ _ h).0 in
    low_bits 16 (2 ^ 32 - 1 - n) (2 ^ 16 - 1 - n) (omega arith)
