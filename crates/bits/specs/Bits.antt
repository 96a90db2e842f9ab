-- Document 01, "Plate bits": numbers as bits, bytes as bits, and the filling of the last byte.
use Rattle.std.specs.Prelude.{ℕ, zero, suc, ◌+◌, ◌*◌, ◌-◌, ◌/◌, ◌%◌, ◌^◌, List, [], ◌∷◌, ◌++◌, Bool, true, false, length, take, drop, replicate, eqb}

-- whether a number is odd
abbrev pub odd : ℕ → Bool
odd n = eqb (n % 2) 1

-- a bit as a number
abbrev pub bit : Bool → ℕ
bit true = 1
bit false = 0

-- the lowest w bits of a number, the highest of them first
unfoldable pub bits_of : ℕ → ℕ → List Bool
bits_of zero v = []
bits_of (suc w) v = odd (v / 2 ^ w) ∷ bits_of w v

-- the number that bits are, the highest first
unfoldable pub value_of : List Bool → ℕ
value_of [] = 0
value_of (b ∷ bs) = bit b * 2 ^ length bs + value_of bs

-- "Highest bit of each byte first"
unfoldable pub bytes_bits : List ℕ → List Bool
bytes_bits [] = []
bytes_bits (b ∷ bs) = bits_of 8 b ++ bytes_bits bs

-- "Zero bits, fewer than 8, fill the last byte"
unfoldable pub filled : List Bool → List Bool
filled bs = bs ++ replicate ((8 - length bs % 8) % 8) false

-- n bytes of the bits
unfoldable pub bytes_of : ℕ → List Bool → List ℕ
bytes_of zero bs = []
bytes_of (suc n) bs = value_of (take 8 bs) ∷ bytes_of n (drop 8 bs)

-- the bytes of the filled bits
unfoldable pub pack : List Bool → List ℕ
pack bs = bytes_of (length (filled bs) / 8) (filled bs)
