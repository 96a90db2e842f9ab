-- Bits that are read ahead, and the numbers that parts of them are.
use Rattle.std.specs.Prelude.{ℕ, ◌+◌, ◌-◌, ◌/◌, ◌%◌, ◌^◌, List, [], ◌∷◌, take, drop, get_or}
use Rattle.bits.specs.Bits.{value_of, bytes_bits}

-- four bytes, from a byte on; a byte behind the last one counts as 0
abbrev pub four_from : List ℕ → ℕ → List ℕ
four_from bytes i = get_or bytes i 0 ∷ get_or bytes (i + 1) 0 ∷ get_or bytes (i + 2) 0 ∷ get_or bytes (i + 3) 0 ∷ []

-- the number that 25 bits are, from a bit on: they lie in four bytes
unfoldable pub ahead_in : List ℕ → ℕ → ℕ
ahead_in bytes at = value_of (take 25 (drop (at % 8) (bytes_bits (four_from bytes (at / 8)))))

-- the number that w of 25 bits are, behind the first k
unfoldable pub part_ahead : ℕ → ℕ → ℕ → ℕ
part_ahead k w ahead = ahead / 2 ^ (25 - k - w) % 2 ^ w
