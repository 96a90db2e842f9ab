-- The content of a lent buffer before a call, made byte by byte.
use Prim.Native.Nat.{ℕ, ◌+◌, ◌*◌, ◌/◌, ◌%◌, ◌<◌}
use native.Mathlib.Omega.{arith}
use native.Mathlib.Nat.{div-add-mod', mul-add-mod_self_right}
use native.Mathlib.Numerals.{add-one}
use mathlib.Core.Path.{◌≡◌}
use mathlib.Core.List.{List}
use lib.ListN.{length, take, set}
use lib.Seq.{take-suc-set}
use Rattle.vectors.specs.Lent.{content}

-- only the lowest byte of the place matters
byte-mod : (i : ℕ) → (i % 256 * 7 + 13) % 256 ≡ (i * 7 + 13) % 256
byte-mod i =
    let e : i * 7 + 13 ≡ i / 256 * 7 * 256 + (i % 256 * 7 + 13) = omega (arith, div-add-mod' i 256) in
    rw (e, mul-add-mod_self_right)

-- one byte more, as the code computes it
pub content-more : (out : List ℕ) (i : ℕ) → i < length out → take i out ≡ content i
    → take (i + 1) (set out i ((i % 256 * 7 + 13) % 256)) ≡ content (i + 1)
unfolding content
content-more out i h e = rw (add-one, take-suc-set, e, byte-mod)
