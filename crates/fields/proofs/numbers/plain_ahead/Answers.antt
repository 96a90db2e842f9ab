-- `plain_ahead` meets its contract: the bits are there, or the plate ends inside the number.
use mathlib.Core.Path.{sym, ◌∙◌}
use Prim.Native.Nat.{◌+◌}
use native.Mathlib.Omega.{arith}
use Rattle.fields.proofs.Onward.{number-there, number_cut, number-end}
use Rattle.fields.proofs.numbers.plain_ahead.Goals as goal

pub returns-in_default : goal.returns-in_default
returns-in_default c = number_cut _ _ _ (sym c.number_ahead.ensures ∙ c.in_default.is)

pub overflow_add-result : goal.overflow_add-result
overflow_add-result c =
    let a = c.args in
    let told = sym c.number_ahead.ensures ∙ c.in-Some.is in
    omega (arith, number-end a.plate.now (a.at + a.k) a.width _ told)

pub returns : goal.returns
returns c = number-there _ _ _ _ (sym c.number_ahead.ensures ∙ c.in-Some.is)
