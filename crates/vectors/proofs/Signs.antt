-- A number of 32 bits with its sign, by its bits.
use Rattle.std.proofs.Common.{ℕ, suc, ◌-◌, ◌^◌, ◌<◌, ◌≡◌, ap, ◌∙◌, refl, arith, Bool, true, false, cond, pos, negsuc}
use Rattle.std.proofs.Math.Facts.{to_z_pos, to_z-neg}
use mir.Syntax.{w32}
use mir.Val.{to_z, bits}
use lib.Dec.{ltb}
use borrow.Author.Tests.{ltb-true, ltb-false}
use Rattle.vectors.specs.Input.{signed_of}

-- the lower half of the numbers is from 0 on, the upper half below 0
pub signed-bits : (n : ℕ) → n < 4294967296 → to_z w32 n ≡ signed_of n
unfolding signed_of
signed-bits n h = go (ltb n 2147483648) refl
  where
    go : (b : Bool) → ltb n 2147483648 ≡ b → to_z w32 n ≡ cond b (pos n) (negsuc (4294967295 - n))
    go true e = let k = ltb-true n 2147483648 e in to_z_pos w32 (omega arith)
    go false e =
        let k = ltb-false n 2147483648 e in
        let m : n ≡ 2 ^ bits w32 - suc (4294967295 - n) = omega arith in
        ap (to_z w32) m ∙ to_z-neg w32 (4294967295 - n) (omega arith)
