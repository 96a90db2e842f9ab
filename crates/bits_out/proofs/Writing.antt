-- Writing bits into bytes: as far as there is room, and filled up to whole bytes.
use Prim.Native.Nat.{ℕ, zero, suc, ◌+◌, ◌-◌, ◌*◌, ◌/◌, ◌%◌, ◌^◌, ◌≤◌, ◌<◌, min}
use mathlib.Core.Path.{◌≡◌, refl, sym, ap, ◌∙◌}
use mathlib.Core.List.{List, ◌∷◌, ◌++◌}
use mathlib.Core.Bool.{Bool, false}
use native.Mathlib.Nat.{zero-div}
use native.Mathlib.Omega.{arith}
use lib.ListN.{length, replicate}
use Rattle.output.specs.Pour.{up_to, pour, poured}
use Rattle.output.proofs.Pour.{pour-past}
use Rattle.output.proofs.Parts.{pour-room}
use Rattle.output.proofs.Poured.{ended, then-counted}
use Rattle.bits.specs.Bits.{bits_of, bytes_bits, filled}
use Rattle.bits.proofs.Numbers.{length-bits_of}
use Rattle.bits.proofs.Bytes.{length-bytes_bits}
use Rattle.bits.proofs.Fields.{first-bits}

module _ (old new : List ℕ) (at width value : ℕ) where
  -- to write the bits that have room is to write them all
  pub room-written : (count power : ℕ) → bytes_bits new ≡ pour at (bits_of count (value / power)) (bytes_bits old) → power ≡ 2 ^ (width - count)
      → count ≡ min width (length old * 8 - at) → bytes_bits new ≡ pour at (bits_of width value) (bytes_bits old)
  room-written count power e ep ec =
      let bits = bits_of width value in
      let long = length-bits_of width value in
      let room = pour-room at count bits (bytes_bits old) (omega (arith, length-bytes_bits old)) in
      rw ep at e ∙ rw (first-bits width count value (omega arith)) at room

  -- with the place behind them
  pub all-written : (end : ℕ) → bytes_bits new ≡ pour at (bits_of width value) (bytes_bits old) → end ≡ up_to (at + width)
      → (end, bytes_bits new) ≡ poured at (bits_of width value) (bytes_bits old)
  unfolding poured
  all-written end e ee =
      let counted : end ≡ up_to (at + length (bits_of width value)) = omega (arith, length-bits_of width value) in
      λ i. (counted i, e i)

-- behind the end
pub none_written : (old : List ℕ) (at : ℕ) (bits : List Bool) → length old ≤ at / 8 → bytes_bits old ≡ pour at bits (bytes_bits old)
none_written old at bits h = sym (pour-past at bits (bytes_bits old) (omega (arith, length-bytes_bits old)))

pub zero_bits : (k : ℕ) → bits_of k 0 ≡ replicate k false
unfolding bits_of
zero_bits zero = refl
zero_bits (suc k) = rw (zero-div (2 ^ k)) (ap (λ l. false ∷ l) (zero_bits k))

-- the filling is a number of that many bits
pub filled-up : (bs : List Bool) → bs ++ bits_of ((8 - length bs % 8) % 8) 0 ≡ filled bs
unfolding filled
filled-up bs = ap (λ l. bs ++ l) (zero_bits _)

-- to write bits and then the filling is to write the filled bits
pub fill : (bs old : List Bool) (x : ℕ) (mid : List Bool) (last : ℕ × List Bool) → (x, mid) ≡ poured 0 bs old
    → last ≡ poured x (bits_of ((8 - x % 8) % 8) 0) mid → x < 18446744073709551615 → last ≡ poured 0 (filled bs) old
fill bs old x mid last e f h =
    let n : x ≡ length bs = omega (arith, ended 0 bs old x mid e) in
    let all : bs ++ bits_of ((8 - x % 8) % 8) 0 ≡ filled bs = ap (λ m. bs ++ bits_of ((8 - m % 8) % 8) 0) n ∙ filled-up bs in
    rw all at (then-counted 0 bs (bits_of ((8 - x % 8) % 8) 0) old x mid last e f h)
