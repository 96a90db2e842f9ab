-- What stands at a place of the input of a vector program.
use Rattle.std.specs.Prelude.{ℕ, ◌+◌, ◌*◌, ◌-◌, min, List, [], cond, length, take, drop, get_or, leb, ltb, ℤ, pos, negsuc}

-- the place so many bytes on, at most the greatest number
abbrev pub onward : ℕ → ℕ → ℕ
onward at count = min (at + count) 18446744073709551615

-- the byte at a place, 0 past the end
abbrev pub byte_at : List ℕ → ℕ → ℕ
byte_at s at = get_or s at 0

-- the number of four bytes, the lowest first
unfoldable pub number_at : List ℕ → ℕ → ℕ
number_at s at =
    byte_at s at + byte_at s (onward at 1) * 256 + byte_at s (onward at 2) * 65536 + byte_at s (onward at 3) * 16777216

-- the number of eight bytes, the lowest first
abbrev pub long_at : List ℕ → ℕ → ℕ
long_at s at = number_at s at + number_at s (onward at 4) * 4294967296

-- the number of 32 bits with its sign, in two's complement
unfoldable pub signed_of : ℕ → ℤ
signed_of n = cond (ltb n 2147483648) (pos n) (negsuc (4294967295 - n))

-- the place behind a slice, which stands behind its length
abbrev pub slice_end : List ℕ → ℕ → ℕ
slice_end s at = onward (onward at 4) (number_at s at)

-- the bytes of a slice, none where it goes past the end
unfoldable pub slice_at : List ℕ → ℕ → List ℕ
slice_at s at = cond (leb (slice_end s at) (length s)) (take (number_at s at) (drop (onward at 4) s)) []
