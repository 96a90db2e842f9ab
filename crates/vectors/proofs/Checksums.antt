-- A checksum of one more byte, and the room for it.
use Prim.Native.Nat.{ℕ, ◌+◌, ◌*◌, ◌%◌, ◌<◌}
use native.Mathlib.Numerals.{add-one}
use mathlib.Core.Path.{◌≡◌}
use mathlib.Core.List.{List, [], ◌∷◌, foldl-append}
use lib.ListN.{length, take, get_or}
use lib.Seq.{take-suc}
use Rattle.vectors.specs.Sums.{sum_of}

pub sum_more : (factor modulus : ℕ) (bytes : List ℕ) (i : ℕ) → i < length bytes
    → (sum_of factor modulus (take i bytes) * factor + get_or bytes i 0 + 1) % modulus ≡ sum_of factor modulus (take (i + 1) bytes)
unfolding sum_of
sum_more factor modulus bytes i h =
    rw (add-one i, take-suc bytes i 0 h, foldl-append (λ (sum b : ℕ). (sum * factor + b + 1) % modulus) 0 (take i bytes) (get_or bytes i 0 ∷ []))
