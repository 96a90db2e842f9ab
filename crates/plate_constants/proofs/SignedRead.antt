-- Constants as the code reads them: a number of bits as an i32, and which of the two lengths follows the code.
use Prim.Native.Nat.{ℕ, zero, suc, ◌+◌, ◌-◌, ◌^◌, ◌≤◌, ◌<◌}
use mathlib.Core.Path.{◌≡◌, refl, sym, ap, ◌∙◌}
use mathlib.Core.List.{List}
use native.Mathlib.Omega.{arith}
use lib.Dec.{leb, ltb, leb-suc-suc}
use lib.IntN.{ℤ}
use mir.Syntax.{w32}
use mir.Val.{to_z, of_z}
use mir.Facts.{to_z-of_z}
use Rattle.causes.specs.declared.Cause.TheVariants.{Unused}
use Rattle.plate.specs.Reading.{Place, got, number, judged, return}
use Rattle.plate.specs.Plate.{signed, short, constant_by, constant}
use Rattle.fields.specs.Places.{place_at}
use Rattle.fields.proofs.Onward.{then-got, judged-alike}
use Rattle.plate.proofs.Constants.{signed_number, signed-small}

-- a number of w bits, up to 32, as an i32
module _ (w : ℕ) (halves : 2 ^ w ≡ 2 ^ (w - 1) + 2 ^ (w - 1)) (small : 2 ^ (w - 1) ≤ 2147483648) where
  pub held : (v : ℕ) (z : ℤ) → v < 2 ^ w → z ≡ signed w v → to_z w32 (of_z w32 z) ≡ signed w v
  held v z h e = rw e (to_z-of_z {w = w32} {z = signed w v} (record { sfits = omega (arith, signed-small w halves v h) }))

  pub signed-got : (p q : Place) (v : ℕ) (z : ℤ) → v < 2 ^ w → got v q ≡ number w p → z ≡ signed w v
      → got (to_z w32 (of_z w32 z)) q ≡ signed_number w p
  unfolding return
  signed-got p q v z h e k = ap (λ c. got c q) (held v z h k) ∙ then-got (number w) (λ v. return (signed w v)) p e

-- the code is 0 or 1
pub constant-code : (plate : List ℕ) (at : ℕ)
    → judged (number 2) (λ v. leb v 1) Unused (place_at plate at) ≡ judged (number 2) (λ k. ltb k 2) Unused (place_at plate at)
constant-code plate at = judged-alike (number 2) (λ k. ltb k 2) Unused plate at (λ v. leb v 1) (λ v. sym (leb-suc-suc v 1))

module _ (plate : List ℕ) (at code next : ℕ)
    (e : got code (place_at plate next) ≡ judged (number 2) (λ v. leb v 1) Unused (place_at plate at)) where
  constant-by : constant_by code (place_at plate next) ≡ constant (place_at plate at)
  unfolding constant
  constant-by = then-got _ constant_by (place_at plate at) (e ∙ constant-code plate at)

  pub constant-short : code ≡ 0 → short (place_at plate next) ≡ constant (place_at plate at)
  constant-short z = rw z at constant-by

  pub constant-long : (code ≡ 0 → ⊥) → constant_by 1 (place_at plate next) ≡ constant (place_at plate at)
  constant-long z = go code z constant-by
    where
      go : (k : ℕ) → (k ≡ 0 → ⊥) → constant_by k (place_at plate next) ≡ constant (place_at plate at)
          → constant_by 1 (place_at plate next) ≡ constant (place_at plate at)
      go zero z b = absurd (z refl)
      go (suc k) z b = b
