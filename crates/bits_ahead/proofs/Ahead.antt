-- Four bytes read ahead: as one number, and the numbers that parts of their bits are.
use Prim.Native.Nat.{ℕ, zero, suc, ◌+◌, ◌-◌, ◌*◌, ◌/◌, ◌%◌, ◌^◌, ◌≤◌, ◌<◌}
use mathlib.Core.Path.{◌≡◌, refl, sym, ap, ◌∙◌}
use mathlib.Core.List.{List, [], ◌∷◌, ◌++◌}
use mathlib.Core.Bool.{Bool, true, false}
use native.Mathlib.Nat.{sub-zero, mod-one}
use native.Mathlib.Omega.{arith}
use mir.Syntax.{w8}
use mir.Val.{Fits}
use lib.ListN.{length, take, drop, get_or, length-drop}
use lib.Seq.{drop-drop, drop-cons, take-take, take_all}
use lib.Dec.{ltb}
use borrow.Author.Tests.{ltb-true, ltb-false}
use Rattle.bits.specs.Bits.{bits_of, value_of, bytes_bits}
use Rattle.bits.specs.Ahead.{four_from, ahead_in, part_ahead}
use Rattle.bits.proofs.Numbers.{length-bits_of, bits_of_value, bits-of-first}
use Rattle.bits.proofs.Bytes.{length-bytes_bits, drop-bytes}
use Rattle.bits.proofs.Fields.{field-value}
use Rattle.bits.proofs.Words.{half-value}

-- n bytes from a byte on
abbrev bytes_from : ℕ → List ℕ → ℕ → List ℕ
bytes_from zero bytes i = []
bytes_from (suc n) bytes i = get_or bytes i 0 ∷ bytes_from n bytes (suc i)

take-both : (b xs ys : List Bool) (m : ℕ) → take (m - length b) xs ≡ take (m - length b) ys → take m (b ++ xs) ≡ take m (b ++ ys)
take-both [] xs ys m e = rw (sub-zero m) at e
take-both (x ∷ b) xs ys zero e = refl
take-both (x ∷ b) xs ys (suc m) e =
    let one : suc m - length (x ∷ b) ≡ m - length b = omega arith in
    ap (λ l. x ∷ l) (take-both b xs ys m (rw one at e))

-- their bits, as far as there are bytes
common : (n : ℕ) (bytes : List ℕ) (i m : ℕ) → m ≤ n * 8 → i * 8 + m ≤ length bytes * 8
    → take m (bytes_bits (bytes_from n bytes i)) ≡ take m (drop (i * 8) (bytes_bits bytes))
unfolding bytes_bits
common zero bytes i m h k = let none : m ≡ 0 = omega arith in rw none refl
common (suc n) bytes i m h k = go (common n bytes (suc i) (m - 8) (omega arith)) (ltb i (length bytes)) refl
  where
    go : (suc i * 8 + (m - 8) ≤ length bytes * 8 → take (m - 8) (bytes_bits (bytes_from n bytes (suc i))) ≡ take (m - 8) (drop (suc i * 8) (bytes_bits bytes)))
        → (v : Bool) → ltb i (length bytes) ≡ v → take m (bytes_bits (bytes_from (suc n) bytes i)) ≡ take m (drop (i * 8) (bytes_bits bytes))
    go others true e =
        let there : i < length bytes = ltb-true i (length bytes) e in
        let byte = bits_of 8 (get_or bytes i 0) in
        let rest = others (omega arith) ∙ ap (take (m - 8)) (drop-bytes (suc i) bytes) in
        rw (drop-bytes i bytes, drop-cons bytes i 0 there)
        (take-both byte (bytes_bits (bytes_from n bytes (suc i))) (bytes_bits (drop (suc i) bytes)) m (rw (length-bits_of 8 (get_or bytes i 0)) rest))
    go others false e = let behind : length bytes ≤ i = ltb-false i (length bytes) e in let none : m ≡ 0 = omega arith in rw none refl

four-common : (bytes : List ℕ) (i m : ℕ) → m ≤ 32 → i * 8 + m ≤ length bytes * 8
    → take m (bytes_bits (four_from bytes i)) ≡ take m (drop (i * 8) (bytes_bits bytes))
four-common bytes i m h k =
    let one : i + 1 ≡ suc i = omega arith in
    let two : i + 2 ≡ suc (suc i) = omega arith in
    let three : i + 3 ≡ suc (suc (suc i)) = omega arith in
    rw (one, two, three) (common 4 bytes i m h k)

-- four bytes have 32 bits
four-long : (bytes : List ℕ) (i : ℕ) → length (bytes_bits (four_from bytes i)) ≡ 32
four-long bytes i = length-bytes_bits (four_from bytes i)

-- four bytes as one number, each below 256
pub four-value : (bytes : List ℕ) (i : ℕ) → ((k : ℕ) → Fits w8 (get_or bytes k 0))
    → ((get_or bytes i 0 * 256 + get_or bytes (i + 1) 0) * 256 + get_or bytes (i + 2) 0) * 256 + get_or bytes (i + 3) 0
    ≡ value_of (bytes_bits (four_from bytes i))
four-value bytes i h =
    half-value (four_from bytes i) 0 (omega arith) below ∙ ap value_of (take_all 32 (bytes_bits (four_from bytes i)) (omega (arith, four-long bytes i)))
  where
    below : (k : ℕ) → Fits w8 (get_or (four_from bytes i) k 0)
    below zero = h i
    below (suc zero) = h (i + 1)
    below (suc (suc zero)) = h (i + 2)
    below (suc (suc (suc zero))) = h (i + 3)
    below (suc (suc (suc (suc k)))) = record { fits = omega arith }

-- where all four are there, they are those of the whole
pub four-there : (bytes : List ℕ) (i : ℕ) → i + 3 < length bytes
    → value_of (take 32 (drop (i * 8) (bytes_bits bytes))) ≡ value_of (bytes_bits (four_from bytes i))
four-there bytes i h =
    let all = take_all 32 (bytes_bits (four_from bytes i)) (omega (arith, four-long bytes i)) in
    ap value_of (sym (four-common bytes i 32 (omega arith) (omega arith)) ∙ all)

-- the 25 bits of them from a bit on
pub ahead-value : (bytes : List ℕ) (at word unit : ℕ) → word ≡ value_of (bytes_bits (four_from bytes (at / 8))) → unit ≡ 2 ^ (7 - at % 8)
    → word / unit % 33554432 ≡ ahead_in bytes at
unfolding ahead_in
ahead-value bytes at word unit ew eu =
    let bits = bytes_bits (four_from bytes (at / 8)) in
    let long = four-long bytes (at / 8) in
    let same : bits_of 32 word ≡ bits = ap (bits_of 32) ew ∙ rw long at (bits_of_value bits) in
    let parts : at % 8 + 25 + (7 - at % 8) ≡ 32 = omega arith in
    let field = field-value (at % 8) 25 (7 - at % 8) word in
    rw eu (sym (rw (parts, same) at field))

-- some bits of the first m
slice-take : (n m w : ℕ) (l : List Bool) → n + w ≤ m → take w (drop n (take m l)) ≡ take w (drop n l)
slice-take zero m w l h = take-take w m l (omega arith)
slice-take (suc n) zero w l h = absurd (omega arith)
slice-take (suc n) (suc m) w [] h = refl
slice-take (suc n) (suc m) w (x ∷ l) h = slice-take n m w l (omega arith)

-- a part of what was read ahead is the number that stands there, if it is there
part-there : (bytes : List ℕ) (at k w : ℕ) → k + w ≤ 25 → at + k + w ≤ length bytes * 8
    → part_ahead k w (ahead_in bytes at) ≡ value_of (take w (drop (at + k) (bytes_bits bytes)))
unfolding ahead_in part_ahead
part-there bytes at k w few there =
    let four = bytes_bits (four_from bytes (at / 8)) in
    let bits = drop (at % 8) four in
    let enough : 25 ≤ length bits = omega (arith, length-drop (at % 8) four, four-long bytes (at / 8)) in
    let value = value_of (take 25 bits) in
    let parts : k + w + (25 - k - w) ≡ 25 = omega arith in
    let field = rw (parts, bits-of-first 25 bits enough) at (field-value k w (25 - k - w) value) in
    let same = four-common bytes (at / 8) (at % 8 + k + w) (omega arith) (omega arith) in
    let place : at / 8 * 8 + (at % 8 + k) ≡ at + k = omega arith in
    let far = at % 8 + k in
    let whole : take w (drop far four) ≡ take w (drop far (drop (at / 8 * 8) (bytes_bits bytes))) =
    sym (slice-take far (far + w) w four (omega arith)) ∙ ap (λ l. take w (drop far l)) same
    ∙ slice-take far (far + w) w (drop (at / 8 * 8) (bytes_bits bytes)) (omega arith) in
    sym field ∙ ap value_of (slice-take k 25 w bits few ∙ ap (take w) (drop-drop k (at % 8) four) ∙ whole
    ∙ ap (take w) (drop-drop far (at / 8 * 8) (bytes_bits bytes)) ∙ ap (λ n. take w (drop n (bytes_bits bytes))) place)

-- no bits are always there
pub part-value : (bytes : List ℕ) (at k w : ℕ) → k + w ≤ 25 → w ≤ length bytes * 8 - (at + k)
    → part_ahead k w (ahead_in bytes at) ≡ value_of (take w (drop (at + k) (bytes_bits bytes)))
unfolding part_ahead value_of
part-value bytes at k zero few there = mod-one _
part-value bytes at k (suc w) few there = part-there bytes at k (suc w) few (omega arith)
