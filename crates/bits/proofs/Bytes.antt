-- Bytes and their bits: packing bits and taking bytes apart are inverse, up to the filling.
use Prim.Native.Nat.{ℕ, zero, suc, ◌+◌, ◌*◌, ◌-◌, ◌/◌, ◌%◌, ◌<◌}
use mathlib.Core.Path.{◌≡◌, refl, sym, ap, ap₂, ◌∙◌}
use mathlib.Core.List.{List, [], ◌∷◌, ◌++◌, append-nil}
use mathlib.Core.Bool.{Bool}
use native.Mathlib.Nat.{mul-div_cancel, zero-add, suc-add}
use native.Mathlib.Omega.{arith}
use lib.ListN.{length, take, drop, get_or, length-append, length-drop, length-replicate, take-append-drop}
use lib.Seq.{take_at, drop_at, drop-drop, drop-nil, take-append-le, drop-append-le}
use Rattle.bits.specs.Bits.{bits_of, value_of, bytes_bits, filled, bytes_of, pack}
use Rattle.bits.proofs.Numbers.{length-bits_of, value-of-bits, bits-of-first}

pub length-bytes_bits : (bs : List ℕ) → length (bytes_bits bs) ≡ length bs * 8
unfolding bytes_bits
length-bytes_bits [] = refl
length-bytes_bits (b ∷ bs) = simp (length-append, length-bits_of) (omega (arith, length-bytes_bits bs))

-- the bits of bytes, cut between two bytes
pub drop-bytes : (n : ℕ) (bytes : List ℕ) → drop (n * 8) (bytes_bits bytes) ≡ bytes_bits (drop n bytes)
unfolding bytes_bits
drop-bytes zero bytes = refl
drop-bytes (suc n) [] = drop-nil (suc n * 8)
drop-bytes (suc n) (b ∷ bytes) =
    let e : suc n * 8 ≡ 8 + n * 8 = omega arith in
    rw (e, ← drop-drop (n * 8) 8 (bits_of 8 b ++ bytes_bits bytes), drop_at (bits_of 8 b) (bytes_bits bytes) 8 (length-bits_of 8 b))
    (drop-bytes n bytes)

length-bytes_of : (n : ℕ) (bs : List Bool) → length (bytes_of n bs) ≡ n
unfolding bytes_of
length-bytes_of zero bs = refl
length-bytes_of (suc n) bs = ap suc (length-bytes_of n (drop 8 bs))

pub length-pack : (bs : List Bool) → length (pack bs) ≡ length (filled bs) / 8
unfolding pack
length-pack bs = length-bytes_of _ (filled bs)

-- the bits of the bytes of whole bytes
bits_of_bytes : (n : ℕ) (bs : List Bool) → length bs ≡ n * 8 → bytes_bits (bytes_of n bs) ≡ bs
unfolding bytes_of bytes_bits
bits_of_bytes zero [] h = refl
bits_of_bytes zero (b ∷ bs) h = absurd (omega arith)
bits_of_bytes (suc n) bs h =
    rw (bits-of-first 8 bs (omega arith), bits_of_bytes n (drop 8 bs) (length-drop 8 bs ∙ omega arith))
    (take-append-drop 8 bs)

pub bytes-of-bits : (bs : List ℕ) → ((i : ℕ) → get_or bs i 0 < 256) → bytes_of (length bs) (bytes_bits bs) ≡ bs
unfolding bytes_of bytes_bits
bytes-of-bits [] h = refl
bytes-of-bits (b ∷ bs) h =
    rw (take_at (bits_of 8 b) (bytes_bits bs) 8 (length-bits_of 8 b), drop_at (bits_of 8 b) (bytes_bits bs) 8 (length-bits_of 8 b))
    (ap₂ ◌∷◌ (value-of-bits 8 b (h 0)) (bytes-of-bits bs (λ i. h (suc i))))

-- the bytes of whole bytes and what follows them
pub bytes-append : (n m : ℕ) (xs ys : List Bool) → length xs ≡ n * 8 → bytes_of (n + m) (xs ++ ys) ≡ bytes_of n xs ++ bytes_of m ys
unfolding bytes_of
bytes-append zero m [] ys h = rw (zero-add m) refl
bytes-append zero m (x ∷ xs) ys h = absurd (omega arith)
bytes-append (suc n) m xs ys h =
    rw (suc-add n m, take-append-le 8 xs ys (omega arith), drop-append-le 8 xs ys (omega arith))
    (ap (λ l. value_of (take 8 xs) ∷ l) (bytes-append n m (drop 8 xs) ys (length-drop 8 xs ∙ omega arith)))

-- filled bits are whole bytes
pub filled-whole : (bs : List Bool) → length (filled bs) / 8 * 8 ≡ length (filled bs)
unfolding filled
filled-whole bs = simp (length-append, length-replicate) (omega arith)

pub bits-of-pack : (bs : List Bool) → bytes_bits (pack bs) ≡ filled bs
unfolding pack
bits-of-pack bs = bits_of_bytes _ (filled bs) (sym (filled-whole bs))

-- bits that only lack the filling of these bytes' bits
pub pack-of-bits : (bs : List Bool) (bytes : List ℕ) → ((i : ℕ) → get_or bytes i 0 < 256) → filled bs ≡ bytes_bits bytes → pack bs ≡ bytes
unfolding pack
pack-of-bits bs bytes h e = rw (e, length-bytes_bits bytes, mul-div_cancel (length bytes) {n = 8} (omega arith)) (bytes-of-bits bytes h)
