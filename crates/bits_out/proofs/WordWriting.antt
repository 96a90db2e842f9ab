-- Writing bits into eight bytes, which are read and stored as one number.
use Prim.Native.Nat.{ℕ, ◌+◌, ◌*◌, ◌/◌, ◌%◌, ◌^◌, ◌≤◌, ◌<◌}
use mathlib.Core.Path.{◌≡◌, refl, sym, ap, ◌∙◌}
use mathlib.Core.List.{List, [], ◌∷◌, ◌++◌, append-nil, append_assoc}
use mathlib.Core.Bool.{Bool}
use native.Mathlib.Omega.{arith}
use lib.ListN.{length, take, drop, length-drop, take-append-drop}
use lib.Seq.{length-take-le}
use Rattle.output.specs.Pour.{pour}
use Rattle.output.proofs.Parts.{pour-behind, pour-before, pour-middle}
use Rattle.bits.specs.Bits.{bits_of, value_of, bytes_bits}
use Rattle.bits.proofs.Numbers.{length-bits_of, bits-of-first}
use Rattle.bits.proofs.Bytes.{length-bytes_bits}
use Rattle.bits.proofs.Fields.{low_bits, bits-split}
use borrow.Rule.Slice.PartMut.{put_mid}
use Rattle.std.specs.Int.{w64, to_be_bytes}

bytes-append : (xs ys : List ℕ) → bytes_bits (xs ++ ys) ≡ bytes_bits xs ++ bytes_bits ys
unfolding bytes_bits
bytes-append [] ys = refl
bytes-append (x ∷ xs) ys =
    ap (λ l. bits_of 8 x ++ l) (bytes-append xs ys) ∙ sym (append_assoc (bits_of 8 x) (bytes_bits xs) (bytes_bits ys))

-- the next byte of a number, above its lowest l bits
next-byte : (l power n : ℕ) → power ≡ 2 ^ l → {low : List Bool} → low ≡ bits_of l n → bits_of 8 (n / power % 256) ++ low ≡ bits_of (8 + l) n
next-byte l power n e f = rw (e, f, low_bits 8 (n / 2 ^ l)) (sym (bits-split 8 l n))

-- the bits of the eight bytes of a number
word-bits : (n : ℕ) → bytes_bits (to_be_bytes w64 n) ≡ bits_of 64 n
unfolding bytes_bits
word-bits n =
    next-byte 56 (256 ^ 7) n refl (next-byte 48 (256 ^ 6) n refl (next-byte 40 (256 ^ 5) n refl (next-byte 32 (256 ^ 4) n refl
    (next-byte 24 (256 ^ 3) n refl (next-byte 16 (256 ^ 2) n refl (next-byte 8 256 n refl (append-nil _ ∙ low_bits 8 n)))))))

-- these bytes in place of eight
pub word-stored : (old : List ℕ) (i k word : ℕ) (new : List ℕ) → i + 7 < length old → k ≡ 8 → new ≡ to_be_bytes w64 word
    → bytes_bits (put_mid i k old new) ≡ pour (i * 8) (bits_of 64 word) (bytes_bits old)
word-stored old i k word new there ek en =
    let front = take i old in
    let behind = drop i old in
    let mid = take 8 behind in
    let rest = drop 8 behind in
    let size : length front ≡ i = length-take-le i old (omega arith) in
    let eight : length mid ≡ 8 = length-take-le 8 behind (omega (arith, length-drop i old)) in
    let apart : old ≡ front ++ (mid ++ rest) = sym (ap (λ l. front ++ l) (take-append-drop 8 behind) ∙ take-append-drop i old) in
    let was = ap bytes_bits apart ∙ bytes-append front (mid ++ rest) ∙ ap (λ l. bytes_bits front ++ l) (bytes-append mid rest) in
    let now = bytes-append front (new ++ rest) ∙ ap (λ l. bytes_bits front ++ l) (bytes-append new rest) in
    let bits = ap bytes_bits en ∙ word-bits word in
    let whole =
    pour-middle (i * 8) (bytes_bits front) (bits_of 64 word) (bytes_bits mid) (bytes_bits rest) (omega (arith, length-bytes_bits front))
    (omega (arith, length-bits_of 64 word, length-bytes_bits mid)) in
    rw ek (now ∙ ap (λ l. bytes_bits front ++ (l ++ bytes_bits rest)) bits ∙ sym (rw (← was) at whole))

-- the new number of eight bytes is the old one with some bits replaced
pub word-written : (old : List ℕ) (at width value word new : ℕ) → at / 8 + 7 < length old → at % 8 + width ≤ 64
    → word ≡ value_of (take 64 (drop (at / 8 * 8) (bytes_bits old))) → bits_of 64 new ≡ pour (at % 8) (bits_of width value) (bits_of 64 word)
    → {last : List Bool} → last ≡ pour (at / 8 * 8) (bits_of 64 new) (bytes_bits old) → last ≡ pour at (bits_of width value) (bytes_bits old)
word-written old at width value word new h k ew en el =
    let bits = bytes_bits old in
    let long = length-bytes_bits old in
    let start = at / 8 * 8 in
    let front = take start bits in
    let behind = drop start bits in
    let enough : 64 ≤ length behind = omega (arith, length-drop start bits) in
    let mid = take 64 behind in
    let rest = drop 64 behind in
    let size : length front ≡ start = length-take-le start bits (omega arith) in
    let eight : length mid ≡ 64 = length-take-le 64 behind enough in
    let apart : bits ≡ front ++ (mid ++ rest) = sym (ap (λ l. front ++ l) (take-append-drop 64 behind) ∙ take-append-drop start bits) in
    let was : bits_of 64 word ≡ mid = ap (bits_of 64) ew ∙ bits-of-first 64 behind enough in
    let becomes : bits_of 64 new ≡ pour (at % 8) (bits_of width value) mid = en ∙ ap (pour (at % 8) (bits_of width value)) was in
    let place : length front + at % 8 ≡ at = omega arith in
    let whole = pour-middle start front (bits_of 64 new) mid rest size (length-bits_of 64 new ∙ sym eight) in
    let part = rw place at (pour-behind front (at % 8) (bits_of width value) (mid ++ rest)) in
    let inner = pour-before (at % 8) (bits_of width value) mid rest (omega (arith, length-bits_of width value)) in
    el ∙ ap (pour start (bits_of 64 new)) apart ∙ whole ∙ ap (λ l. front ++ (l ++ rest)) becomes ∙ ap (λ l. front ++ l) (sym inner) ∙ sym part
    ∙ ap (pour at (bits_of width value)) (sym apart)
