-- `bits_ahead::part_ahead` meets its contract. Assumes nothing.
use mathlib.Core.Path.{refl}
use native.Mathlib.Nat.{mod-lt, lt_of_lt_of_le}
use native.Mathlib.Omega.{arith}
use lib.Pow.{pow_pos, pow_mono}
use Rattle.bits.specs.Ahead.{part_ahead}
use Rattle.bits_ahead.proofs.part_ahead.Goals as goal

pub returns : goal.returns
unfolding part_ahead
returns c =
    let a = c.args in
    let small = lt_of_lt_of_le (mod-lt _ (pow_pos a.width)) (pow_mono {i = a.width} {j = 25} (omega arith)) in
    rw c.two_to.ensures.0 (refl, small)
