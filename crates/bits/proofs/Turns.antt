-- A turn of reading and a turn of writing: bits within one byte, and what they make of the whole.
use Prim.Native.Nat.{ℕ, zero, suc, ◌+◌, ◌-◌, ◌*◌, ◌/◌, ◌^◌, ◌≤◌, ◌<◌}
use mathlib.Core.Path.{◌≡◌, sym, ap, ◌∙◌}
use mathlib.Core.List.{List, [], ◌∷◌, ◌++◌}
use mathlib.Core.Bool.{Bool}
use native.Mathlib.Nat.{zero-add, zero-mul, add-mul, mul_assoc, add_assoc, add-sub_of_le, le-mul_of_pos_right}
use native.Mathlib.Omega.{arith}
use lib.ListN.{length, take, drop, get_or, set, length-drop}
use lib.Seq.{take-add, drop-drop, length-take-le, drop-cons, take-append-le, drop-append-le}
use lib.Pow.{pow-add, pow_pos, pow_mono}
use Rattle.output.specs.Pour.{pour}
use Rattle.output.proofs.Pour.{pour-none, pour-then}
use Rattle.output.proofs.Parts.{pour-behind, pour-before}
use Rattle.bits.specs.Bits.{bits_of, value_of, bytes_bits}
use Rattle.bits.proofs.Numbers.{length-bits_of, first_below}
use Rattle.bits.proofs.Bytes.{length-bytes_bits, drop-bytes}
use Rattle.bits.proofs.Fields.{value-append, bits-cut}

-- bits of one byte
pub bits-in-byte : (bytes : List ℕ) (i bit size : ℕ) → i < length bytes → bit + size ≤ 8
    → take size (drop (i * 8 + bit) (bytes_bits bytes)) ≡ take size (drop bit (bits_of 8 (get_or bytes i 0)))
unfolding bytes_bits
bits-in-byte bytes i bit size h k =
    let b = bits_of 8 (get_or bytes i 0) in
    let rest = bytes_bits (drop (suc i) bytes) in
    let eight = length-bits_of 8 (get_or bytes i 0) in
    let inner : size ≤ length (drop bit b) = omega (arith, length-drop bit b) in
    rw (← drop-drop bit (i * 8) (bytes_bits bytes), drop-bytes i bytes, drop-cons bytes i 0 h, drop-append-le bit b rest (omega arith))
    (take-append-le size (drop bit b) rest inner)

-- the number of n bits, of which t come first
pub value-cut : (bs : List Bool) (n t : ℕ) → t ≤ n → n ≤ length bs
    → value_of (take n bs) ≡ value_of (take t bs) * 2 ^ (n - t) + value_of (take (n - t) (drop t bs))
value-cut bs n t h k =
    let more = n - t in
    let long = length-take-le more (drop t bs) (omega (arith, length-drop t bs)) in
    ap value_of (rw (add-sub_of_le h) at (take-add t more bs)) ∙ rw long at (value-append (take t bs) (take more (drop t bs)))

-- of `width` bits from the bit `at` on, all but the last `left`, which begin at `place`, are read: they are `value`
pub record PartRead (bytes : List ℕ) (at width value place left : ℕ) : Type 0 where
  pub whole : value * 2 ^ left + value_of (take left (drop place (bytes_bits bytes))) ≡ value_of (take width (drop at (bytes_bits bytes)))

pub read-start : (bytes : List ℕ) (at width place : ℕ) → place ≡ at → PartRead bytes at width 0 place width
read-start bytes at width place e = record { whole = rw (e, zero-mul (2 ^ width)) (zero-add _) }

-- the next bits, of one byte
pub read-turn : {bytes : List ℕ} {at width value : ℕ} (i bit left size power part place : ℕ)
    → PartRead bytes at width value (i * 8 + bit) left
    → power ≡ 2 ^ size → part ≡ value_of (take size (drop bit (bits_of 8 (get_or bytes i 0))))
    → i < length bytes → bit + size ≤ 8 → size ≤ left → i * 8 + bit + left ≤ length bytes * 8 → place ≡ i * 8 + bit + size
    → PartRead bytes at width (value * power + part) place (left - size)
read-turn {bytes} {at} {width} {value} i bit left size power part place p ep eq h k l m e =
    let here = i * 8 + bit in
    let bits = bytes_bits bytes in
    let more = left - size in
    let split : 2 ^ left ≡ 2 ^ size * 2 ^ more = rw (add-sub_of_le l) at (pow-add 2 size more) in
    let cut = value-cut (drop here bits) left size l (omega (arith, length-drop here bits, length-bytes_bits bytes)) in
    let first = sym (eq ∙ ap value_of (sym (bits-in-byte bytes i bit size h k))) in
    let apart = rw (split, cut, drop-drop size here bits, first, ← mul_assoc value (2 ^ size) (2 ^ more)) at p.whole in
    record { whole = rw (ep, e, add-mul (value * 2 ^ size) part (2 ^ more)) (add_assoc _ _ _ ∙ apart) }

-- what is read is not above the whole, which has 32 bits at most
pub read_below : {bytes : List ℕ} {at width value place left : ℕ} → PartRead bytes at width value place left
    → width ≤ length bytes * 8 - at → width ≤ 32 → value < 2 ^ 32
read_below {bytes} {at} {width} {value} {left = left} p h k =
    let bits = bytes_bits bytes in
    let below = first_below width (drop at bits) (omega (arith, length-drop at bits, length-bytes_bits bytes)) in
    omega (arith, p.whole, le-mul_of_pos_right value (pow_pos left), pow_mono k)

pub read-end : {bytes : List ℕ} {at width value place left : ℕ} → PartRead bytes at width value place left → left ≡ 0
    → value ≡ value_of (take width (drop at (bytes_bits bytes)))
unfolding value_of
read-end p e = omega (arith, rw e at p.whole)

-- a byte of which only these bits are new
pub byte-written : (out : List ℕ) (i bit b : ℕ) (new : List Bool) → bits_of 8 b ≡ pour bit new (bits_of 8 (get_or out i 0))
    → i < length out → bit + length new ≤ 8 → bytes_bits (set out i b) ≡ pour (i * 8 + bit) new (bytes_bits out)
unfolding bytes_bits
byte-written [] i bit b new e h k = absurd (omega arith)
byte-written (x ∷ out) zero bit b new e h k =
    rw (zero-mul 8, zero-add bit, e) (sym (pour-before bit new (bits_of 8 x) (bytes_bits out) (omega (arith, length-bits_of 8 x))))
byte-written (x ∷ out) (suc i) bit b new e h k =
    let place : suc i * 8 + bit ≡ length (bits_of 8 x) + (i * 8 + bit) = omega (arith, length-bits_of 8 x) in
    rw (place, pour-behind (bits_of 8 x) (i * 8 + bit) new (bytes_bits out))
    (ap (λ l. bits_of 8 x ++ l) (byte-written out i bit b new e (omega arith) k))

-- of the lowest `width` bits of `value`, from the bit `at` of `old` on, all but the last `left`, which begin at `place`, are written
pub record PartWritten (old : List ℕ) (at width value : ℕ) (out : List ℕ) (place left : ℕ) : Type 0 where
  pub whole : pour place (bits_of left value) (bytes_bits out) ≡ pour at (bits_of width value) (bytes_bits old)

pub write-start : (old : List ℕ) (at width value place : ℕ) → place ≡ at → PartWritten old at width value old place width
write-start old at width value place e = record { whole = ap (λ n. pour n (bits_of width value) (bytes_bits old)) e }

-- the next bits, of one byte
pub write-turn : {old : List ℕ} {at width value : ℕ} {out : List ℕ} (i bit left size power b place : ℕ)
    → PartWritten old at width value out (i * 8 + bit) left
    → power ≡ 2 ^ (left - size) → bits_of 8 b ≡ pour bit (bits_of size (value / power)) (bits_of 8 (get_or out i 0))
    → i < length out → bit + size ≤ 8 → size ≤ left → place ≡ i * 8 + bit + size
    → PartWritten old at width value (set out i b) place (left - size)
write-turn {value = value} {out = out} i bit left size power b place p ep eb h k l e =
    let first = bits_of size (value / 2 ^ (left - size)) in
    let long : length first ≡ size = length-bits_of size _ in
    let both = rw long at (pour-then (i * 8 + bit) first (bits_of (left - size) value) (bytes_bits out)) in
    let apart = rw (bits-cut left size value l) at p.whole in
    record { whole = rw (e, byte-written out i bit b first (rw ep at eb) h (omega arith)) (both ∙ apart) }

pub write-end : {old : List ℕ} {at width value : ℕ} {out : List ℕ} {place left : ℕ} → PartWritten old at width value out place left
    → left ≡ 0 → bytes_bits out ≡ pour at (bits_of width value) (bytes_bits old)
unfolding bits_of
write-end {out = out} {place = place} p e = sym (pour-none place (bytes_bits out)) ∙ rw e at p.whole
