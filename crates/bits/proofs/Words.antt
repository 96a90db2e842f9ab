-- Four and eight bytes as one number, and the number that some of their bits are.
use Prim.Native.Nat.{ℕ, ◌+◌, ◌-◌, ◌*◌, ◌/◌, ◌%◌, ◌^◌, ◌≤◌, ◌<◌}
use mathlib.Core.Path.{◌≡◌, sym, ap, ◌∙◌}
use mathlib.Core.List.{List, ◌++◌}
use native.Mathlib.Nat.{mod-lt, lt_of_lt_of_le}
use native.Mathlib.Omega.{arith}
use mir.Syntax.{w8}
use mir.Val.{Fits}
use lib.ListN.{length, take, drop, get_or, length-drop, take-append-drop}
use lib.Seq.{drop-drop, take-append-le, drop-append-le, take_all}
use lib.Pow.{pow_pos, pow_mono}
use Rattle.bits.specs.Bits.{bits_of, value_of, bytes_bits}
use Rattle.bits.proofs.Numbers.{length-bits_of, value-of-bits, bits-of-first}
use Rattle.bits.proofs.Bytes.{length-bytes_bits}
use Rattle.bits.proofs.Fields.{field-value}
use Rattle.bits.proofs.Turns.{bits-in-byte, value-cut}

module _ (bytes : List ℕ) (i : ℕ) (there : i + 3 < length bytes) where
  module _ (b : (k : ℕ) → Fits w8 (get_or bytes k 0)) where
    -- k bytes, and one more behind them
    byte-behind : (k : ℕ) → k ≤ 3
        → value_of (take ((k + 1) * 8) (drop (i * 8) (bytes_bits bytes)))
        ≡ value_of (take (k * 8) (drop (i * 8) (bytes_bits bytes))) * 256 + get_or bytes (i + k) 0
    byte-behind k h =
        let bits = bytes_bits bytes in
        let byte = get_or bytes (i + k) 0 in
        let long = length-bytes_bits bytes in
        let cut = value-cut (drop (i * 8) bits) ((k + 1) * 8) (k * 8) (omega arith) (omega (arith, length-drop (i * 8) bits)) in
        let eight : take 8 (bits_of 8 byte) ≡ bits_of 8 byte = take_all 8 (bits_of 8 byte) (omega (arith, length-bits_of 8 byte)) in
        let last : value_of (take 8 (drop ((i + k) * 8 + 0) bits)) ≡ byte =
        ap value_of (bits-in-byte bytes (i + k) 0 8 (omega arith) (omega arith) ∙ eight) ∙ value-of-bits 8 byte (b (i + k)).fits in
        let one : (k + 1) * 8 - k * 8 ≡ 8 = omega arith in
        let place : i * 8 + k * 8 ≡ (i + k) * 8 + 0 = omega arith in
        rw (one, drop-drop (k * 8) (i * 8) bits, place, last) at cut

    pub half-value : ((get_or bytes i 0 * 256 + get_or bytes (i + 1) 0) * 256 + get_or bytes (i + 2) 0) * 256 + get_or bytes (i + 3) 0
        ≡ value_of (take 32 (drop (i * 8) (bytes_bits bytes)))
    unfolding value_of
    half-value =
        let here : i + 0 ≡ i = omega arith in
        let first = rw here at (byte-behind 0 (omega arith)) in
        omega (arith, first, byte-behind 1 (omega arith), byte-behind 2 (omega arith), byte-behind 3 (omega arith))

-- eight bytes are four and four
pub word_value : (bytes : List ℕ) (i : ℕ) → i + 7 < length bytes
    → value_of (take 32 (drop (i * 8) (bytes_bits bytes))) * 4294967296 + value_of (take 32 (drop ((i + 4) * 8) (bytes_bits bytes)))
    ≡ value_of (take 64 (drop (i * 8) (bytes_bits bytes)))
word_value bytes i there =
    let bits = bytes_bits bytes in
    let cut = value-cut (drop (i * 8) bits) 64 32 (omega arith) (simp (length-drop, length-bytes_bits) (omega arith)) in
    let place : i * 8 + 32 ≡ (i + 4) * 8 = omega arith in
    sym (rw (drop-drop 32 (i * 8) bits, place) at cut)

-- the number that w of the n bits from a byte on are, from the bit `at` on, with the powers of two as numbers at hand
module _ (n : ℕ) (bytes : List ℕ) (at w unit values word : ℕ) (few : at % 8 + w ≤ n) (there : at / 8 * 8 + n ≤ length bytes * 8)
    (eu : unit ≡ 2 ^ (n - at % 8 - w)) (ev : values ≡ 2 ^ w) (e : word ≡ value_of (take n (drop (at / 8 * 8) (bytes_bits bytes)))) where
  pub word_below : w ≤ 32 → word / unit % values < 4294967296
  word_below small = rw ev (lt_of_lt_of_le (mod-lt (word / unit) (pow_pos w)) (pow_mono {i = w} {j = 32} small))

  pub word-field : word / unit % values ≡ value_of (take w (drop at (bytes_bits bytes)))
  word-field =
      let bits = drop (at / 8 * 8) (bytes_bits bytes) in
      let l = n - at % 8 - w in
      let long : n ≤ length bits = omega (arith, length-drop (at / 8 * 8) (bytes_bits bytes), length-bytes_bits bytes) in
      let same : bits_of n word ≡ take n bits = ap (bits_of n) e ∙ bits-of-first n bits long in
      let size = length-bits_of n word in
      let apart : bits ≡ bits_of n word ++ drop n bits = sym (ap (λ x. x ++ drop n bits) same ∙ take-append-drop n bits) in
      let parts : at % 8 + w + l ≡ n = omega arith in
      let inner = drop (at % 8) (bits_of n word) in
      let place : at / 8 * 8 + at % 8 ≡ at = omega arith in
      let front : take w (drop (at % 8) bits) ≡ take w inner =
      ap (λ x. take w (drop (at % 8) x)) apart ∙ ap (take w) (drop-append-le (at % 8) (bits_of n word) (drop n bits) (omega arith))
      ∙ take-append-le w inner (drop n bits) (omega (arith, length-drop (at % 8) (bits_of n word))) in
      let whole : take w (drop at (bytes_bits bytes)) ≡ take w inner =
      ap (λ k. take w (drop k (bytes_bits bytes))) (sym place) ∙ ap (take w) (sym (drop-drop (at % 8) (at / 8 * 8) (bytes_bits bytes))) ∙ front in
      rw (eu, ev) (sym (rw parts at (field-value (at % 8) w l word)) ∙ ap value_of (sym whole))
