-- `read_plain` meets its contract: the bits are there, or the plate ends inside the number.
use mathlib.Core.Path.{sym, ◌∙◌}
use native.Mathlib.Omega.{arith}
use Rattle.fields.proofs.Onward.{number-there, number_cut, number-end}
use Rattle.fields.proofs.numbers.read_plain.Goals as goal

pub returns-in_default : goal.returns-in_default
returns-in_default c = number_cut _ _ _ (sym c.read_number.ensures ∙ c.in_default.is)

pub overflow_add-result : goal.overflow_add-result
overflow_add-result c = let a = c.args in
    omega (
      arith,
      number-end a.plate.now a.at a.width _
          (sym c.read_number.ensures ∙ c.in-Some.is),
    )

pub returns : goal.returns
returns c = number-there _ _ _ _ (sym c.read_number.ensures ∙ c.in-Some.is)
