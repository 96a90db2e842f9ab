-- How the whole of a lent buffer is written after a call: model/README.md, BUFFER.
use Rattle.std.specs.Prelude.{ℕ, ◌+◌, ◌*◌, ◌%◌, cond, length, leb}
use mathlib.Core.List.{List, [], ◌∷◌, ◌++◌, foldl}
use Rattle.text.specs.Parts.{comma}
use Rattle.decimals.specs.Number.{decimalℕ}
use Rattle.printed.specs.Pairs.{pairs}

-- a checksum: from 0 on, each byte makes of the sum (sum * factor + byte + 1) mod modulus
unfoldable pub sum_of : ℕ → ℕ → List ℕ → ℕ
sum_of factor modulus bytes = foldl (λ (sum b : ℕ). (sum * factor + b + 1) % modulus) 0 bytes

-- up to 64 bytes as pairs of hexadecimal digits, more by their two checksums
unfoldable pub buffer_text : List ℕ → List ℕ
buffer_text bytes =
    cond (leb (length bytes) 64)
    (pairs bytes)
    (decimalℕ (sum_of 48271 2147483647 bytes) ++ (comma ∷ []) ++ decimalℕ (sum_of 69643 4294967291 bytes))
