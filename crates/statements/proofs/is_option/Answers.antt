-- `is_option` meets its contract: a number below 0 is no place.
use native.Mathlib.Omega.{arith}
use mir.Facts.{to_z-of_z}
use Rattle.decimals.proofs.Signs.{plain}
use Rattle.statements.proofs.Options.{option_plain, option-minus}
use Rattle.statements.proofs.is_option.Goals as goal

pub overflow_cast-result : goal.overflow_cast-result
overflow_cast-result c = let k = plain _ c.ranges.v c.if-v-ge0.true in rw k.held (tt, record { fits = omega arith })

pub returns-then-v-ge0 : goal.returns-then-v-ge0
returns-then-v-ge0 c =
    let a = c.args in
    rw (to_z-of_z c.ranges.v) (option_plain a.options a.v (rw (to_z-of_z c.ranges.v) at c.if-v-ge0.true))

pub returns : goal.returns
returns c = let a = c.args in option-minus a.options a.v (rw (to_z-of_z c.ranges.v) at c.if-v-ge0.false)
