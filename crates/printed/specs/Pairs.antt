-- Bytes as pairs of hexadecimal digits: document 01, "Walked by hand".
use Rattle.std.specs.Prelude.{ℕ, ◌+◌, ◌/◌, ◌%◌, List, [], ◌∷◌, cond, ltb}

-- a digit in upper-case hexadecimal
abbrev pub hexadecimal : ℕ → ℕ
hexadecimal n = cond (ltb n 10) (48 + n) (55 + n)

-- "the bytes in upper-case hexadecimal pairs without spaces"
unfoldable pub pairs : List ℕ → List ℕ
pairs [] = []
pairs (b ∷ bs) = hexadecimal (b / 16) ∷ hexadecimal (b % 16) ∷ pairs bs
