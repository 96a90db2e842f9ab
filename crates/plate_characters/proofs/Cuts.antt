-- Characters read from 56 bits at once: the bits as one number, of which one character after the other is cut.
use Prim.Native.Nat.{ℕ, ◌+◌, ◌-◌, ◌*◌, ◌/◌, ◌%◌, ◌^◌, ◌≤◌, ◌<◌}
use mathlib.Core.Path.{◌≡◌, sym, ap, ◌∙◌}
use mathlib.Core.List.{List}
use native.Mathlib.Nat.{add-mul, mul_assoc, mul-lt-mul_of_pos_right, le-div_iff_mul-le, mod-lt}
use native.Mathlib.Omega.{arith}
use lib.ListN.{length, take, drop, length-drop}
use lib.Seq.{drop-drop}
use lib.Pow.{pow-add, pow_pos}
use Rattle.bits.specs.Bits.{value_of, bytes_bits}
use Rattle.bits.specs.Number.{wide_in}
use Rattle.std.specs.Prelude.{Some}
use Rattle.std.proofs.lemmas.Nat.{div-mul-add, mod-mul-add}
use Rattle.bits.proofs.Bytes.{length-bytes_bits}
use Rattle.bits.proofs.Numbers.{first_below}
use Rattle.bits.proofs.Turns.{value-cut}
use Rattle.bits.proofs.Reading.{number-in, wide_is, wide_fits}
use Rattle.plate.specs.Reading.{got, number}
use Rattle.fields.specs.Places.{place_at}
use Rattle.fields.proofs.Onward.{number-there}

-- k of 56 bits are passed at a bit, and `left` is the number of the others, from the highest of 56 bits on
pub record Left (plate : List ℕ) (bit left k : ℕ) : Type 0 where
  pub most : k ≤ 56
  pub room : bit + (56 - k) ≤ length plate * 8
  pub rest : left ≡ value_of (take (56 - k) (drop bit (bytes_bits plate))) * 2 ^ k

pub left-start : (plate : List ℕ) (bit v : ℕ) → wide_in plate bit ≡ Some v → Left plate bit v 0
left-start plate bit v e =
    let one : v ≡ v * 1 = omega arith in
    record {
      most = omega arith;
      room = omega (arith, wide_fits plate bit v e);
      rest = one ∙ ap (λ k. k * 1) (wide_is plate bit v e);
    }

-- behind n characters of w bits there is room for one more
pub next-fits : (w n : ℕ) → 0 < w → n < 56 / w → n * w + w ≤ 56
next-fits w n h k = let below : n + 1 ≤ 56 / w = omega arith in let more = (le-div_iff_mul-le h).0 below in omega (arith, more, add-mul n 1 w)

-- the bits that are left behind w bits are a number of 56 bits again
pub passed-fits : (w left : ℕ) → w ≤ 56 → left % 2 ^ (56 - w) * 2 ^ w < 72057594037927936
passed-fits w left h =
    let all : 56 - w + w ≡ 56 = omega arith in
    let powers : 2 ^ (56 - w) * 2 ^ w ≡ 72057594037927936 = sym (pow-add 2 (56 - w) w) ∙ ap (λ k. 2 ^ k) all in
    rw powers at (mul-lt-mul_of_pos_right (mod-lt left (pow_pos (56 - w))) (pow_pos w))

-- the next w bits are a character
module _ (w : ℕ) {plate : List ℕ} {bit left k : ℕ} (s : Left plate bit left k) (few : k + w ≤ 56) where
  long : 56 - k ≤ length (drop bit (bytes_bits plate))
  long = omega (arith, s.room, length-drop bit (bytes_bits plate), length-bytes_bits plate)

  -- these bits, and those behind them
  pub record Cut : Type 0 where
    pub first : left / 2 ^ (56 - w) ≡ value_of (take w (drop bit (bytes_bits plate)))
    pub behind : left % 2 ^ (56 - w) ≡ value_of (take (56 - (k + w)) (drop (bit + w) (bytes_bits plate))) * 2 ^ k

  cut : Cut
  cut =
      let bits = drop bit (bytes_bits plate) in
      let more = 56 - (k + w) in
      let size : 56 - k - w ≡ more = omega arith in
      let shorter = length-drop w bits in
      let next : drop w bits ≡ drop (bit + w) (bytes_bits plate) = drop-drop w bit (bytes_bits plate) in
      let apart = rw (size, next) at (value-cut bits (56 - k) w (omega arith) long) in
      let a = value_of (take w bits) in
      let b = value_of (take more (drop (bit + w) (bytes_bits plate))) in
      let all : more + k ≡ 56 - w = omega arith in
      let powers : 2 ^ more * 2 ^ k ≡ 2 ^ (56 - w) = sym (pow-add 2 more k) ∙ ap (λ k. 2 ^ k) all in
      let small : b < 2 ^ more = rw next at (first_below more (drop w bits) (omega (arith, long))) in
      let below : b * 2 ^ k < 2 ^ (56 - w) = rw powers at (mul-lt-mul_of_pos_right small (pow_pos k)) in
      let sum : left ≡ a * 2 ^ (56 - w) + b * 2 ^ k =
      s.rest ∙ ap (λ n. n * 2 ^ k) apart ∙ add-mul (a * 2 ^ more) b (2 ^ k)
      ∙ ap (λ n. n + b * 2 ^ k) (mul_assoc a (2 ^ more) (2 ^ k) ∙ ap (λ n. a * n) powers) in
      record { first = rw sum (div-mul-add a _ _ below); behind = rw sum (mod-mul-add a _ _ below) }

  -- the character is a number of w bits
  pub left-number : got (left / 2 ^ (56 - w)) (place_at plate (bit + w)) ≡ number w (place_at plate bit)
  left-number =
      ap (λ c. got c (place_at plate (bit + w))) cut.first
      ∙ number-there plate bit w _ (number-in w (drop bit (bytes_bits plate)) (omega (arith, long)))

  pub left_below : left / 2 ^ (56 - w) < 2 ^ w
  left_below = rw cut.first (first_below w (drop bit (bytes_bits plate)) (omega (arith, long)))

  -- it is passed
  pub left-more : Left plate (bit + w) (left % 2 ^ (56 - w) * 2 ^ w) (k + w)
  left-more =
      let b = value_of (take (56 - (k + w)) (drop (bit + w) (bytes_bits plate))) in
      record {
        most = few;
        room = omega (arith, s.room);
        rest = ap (λ n. n * 2 ^ w) cut.behind ∙ mul_assoc b (2 ^ k) (2 ^ w) ∙ ap (λ n. b * n) (sym (pow-add 2 k w));
      }
