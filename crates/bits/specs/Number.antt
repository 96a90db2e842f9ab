-- What reading a number of bits finds.
use Rattle.std.specs.Prelude.{ℕ, ◌+◌, ◌/◌, List, Bool, cond, Option, Some, None, length, take, drop, leb, ltb}
use Rattle.bits.specs.Bits.{value_of, bytes_bits}

-- the number that the first w bits are, if there are so many
unfoldable pub number_in : ℕ → List Bool → Option ℕ
number_in w bs = cond (leb w (length bs)) (Some (value_of (take w bs))) None

-- the number that 56 bits are, from a bit on, if there are eight bytes from that bit's byte on
unfoldable pub wide_in : List ℕ → ℕ → Option ℕ
wide_in bytes at = cond (ltb (at / 8 + 7) (length bytes)) (Some (value_of (take 56 (drop at (bytes_bits bytes))))) None
