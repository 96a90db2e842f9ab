-- Writings of bits one behind the other, in a buffer of at most a plate's length, and loops of them.
use Prim.Native.Nat.{ℕ, ◌≤◌}
use native.Mathlib.Omega.{arith}
use mathlib.Core.Path.{◌≡◌, refl}
use mathlib.Core.List.{List, [], ◌++◌}
use mathlib.Core.Bool.{Bool}
use lib.ListN.{length}
use Rattle.output.specs.Pour.{poured}
use Rattle.output.proofs.Pour.{then, none, kept}
use Rattle.output.proofs.Poured.{ended}
use Rattle.bits.specs.Bits.{bytes_bits}
use Rattle.bits.proofs.Bytes.{length-bytes_bits}

-- two writings, the second where the first ended, are one
pub both : {x : ℕ} {mid : List Bool} {last : ℕ × List Bool} (at : ℕ) (a b : List Bool) (old : List ℕ) → (x, mid) ≡ poured at a (bytes_bits old)
    → last ≡ poured x b mid → length old ≤ 2953 → last ≡ poured at (a ++ b) (bytes_bits old)
both {x} {mid} {last} at a b old e f h = then at a b (bytes_bits old) x mid last e f (omega (arith, length-bytes_bits old))

-- within a loop: whatever writes the rest from `end` on into the buffer as it is now makes the writing of the whole from `at` on
pub record Left (at : ℕ) (whole : List Bool) (old : List ℕ) (end : ℕ) (rest : List Bool) (new : List ℕ) : Type 0 where
  pub makes : (last : ℕ × List Bool) → last ≡ poured end rest (bytes_bits new) → last ≡ poured at whole (bytes_bits old)
  pub size : length new ≡ length old
  pub counted : end ≤ 18446744073709551615

-- before the first turn
pub begun : {at : ℕ} {old : List ℕ} (whole rest : List Bool) → whole ≡ rest → at ≤ 18446744073709551615 → Left at whole old at rest old
begun whole rest e h = record { makes = λ last f. rw e f; size = refl; counted = h }

module _ {at end : ℕ} {whole rest : List Bool} {old new : List ℕ} (left : Left at whole old end rest new) where
  -- a turn writes the front of the rest
  pub turned : {x : ℕ} {last : List ℕ} (a next : List Bool) → rest ≡ a ++ next → (x, bytes_bits last) ≡ poured end a (bytes_bits new)
      → length old ≤ 2953 → Left at whole old x next last
  turned {last} a next e f h =
      let same = kept _ _ _ _ _ f in
      record {
        makes = λ l g. left.makes l (rw e (both _ _ _ _ f g (omega (arith, left.size))));
        size = omega (arith, left.size, length-bytes_bits new, length-bytes_bits last);
        counted = omega (arith, ended _ _ _ _ _ f);
      }

  -- nothing is left
  pub done : rest ≡ [] → (end, bytes_bits new) ≡ poured at whole (bytes_bits old)
  done e = left.makes _ (rw e (none end (bytes_bits new) left.counted))
