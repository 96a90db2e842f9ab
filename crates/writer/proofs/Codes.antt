-- A code and the field behind it, as one number.
use Prim.Native.Nat.{ℕ, ◌+◌, ◌*◌, ◌%◌, ◌≤◌, ◌<◌}
use native.Mathlib.Omega.{arith}
use mathlib.Core.Path.{◌≡◌, ◌∙◌}
use mathlib.Core.List.{◌++◌, append_assoc}
use Rattle.bits.specs.Bits.{bits_of}
use Rattle.bits.proofs.Fields.{bits-behind}

pub code-register : (code register : ℕ) → bits_of 8 (code * 32 + register % 32) ≡ bits_of 3 code ++ bits_of 5 register
code-register code register = bits-behind 3 5 code register

-- the code 0 adds nothing
pub register-alone : (register : ℕ) → bits_of 8 (register % 32) ≡ bits_of 3 0 ++ bits_of 5 register
register-alone register = let e : 0 + register % 32 ≡ register % 32 = omega arith in rw e at (code-register 0 register)

pub goto-skip : (skip : ℕ) → bits_of 12 (2048 + skip % 512) ≡ bits_of 3 4 ++ bits_of 9 skip
goto-skip skip = bits-behind 3 9 4 skip

-- ---- the fields of an if

module _ (register op low skip : ℕ) where
  if-front : op ≤ 7 → bits_of 11 ((160 + register % 32) * 8 + op) ≡ bits_of 3 5 ++ bits_of 5 register ++ bits_of 3 op
  if-front h =
      let e : op % 8 ≡ op = omega arith in
      rw e at (bits-behind 8 3 (160 + register % 32) op) ∙ rw (bits-behind 3 5 5 register)

  -- a constant of 16 bits, and one of 32
  module _ (h : op ≤ 7) where
    pub if-short : bits_of 38 ((((160 + register % 32) * 8 + op) * 4 * 65536 + low % 65536) * 512 + skip % 512)
        ≡ bits_of 3 5 ++ bits_of 5 register ++ bits_of 3 op ++ (bits_of 2 0 ++ bits_of 16 low) ++ bits_of 9 skip
    if-short =
        let front = (160 + register % 32) * 8 + op in
        let e : front * 4 + 0 ≡ front * 4 = omega arith in
        bits-behind 29 9 (front * 4 * 65536 + low % 65536) skip
        ∙ rw (bits-behind 13 16 (front * 4) low, rw e at (bits-behind 11 2 front 0), if-front h, append_assoc _ (bits_of 2 0) (bits_of 16 low))

    pub if-long : low < 4294967296 → bits_of 54 (((((160 + register % 32) * 8 + op) * 4 + 1) * 4294967296 + low) * 512 + skip % 512)
        ≡ bits_of 3 5 ++ bits_of 5 register ++ bits_of 3 op ++ (bits_of 2 1 ++ bits_of 32 low) ++ bits_of 9 skip
    if-long k =
        let front = (160 + register % 32) * 8 + op in
        let e : low % 4294967296 ≡ low = omega arith in
        bits-behind 45 9 ((front * 4 + 1) * 4294967296 + low) skip
        ∙ rw (rw e at (bits-behind 13 32 (front * 4 + 1) low), bits-behind 11 2 front 1, if-front h, append_assoc _ (bits_of 2 1) (bits_of 32 low))
