-- `read_halves` meets its contract: both halves are there, or the plate ends inside one of them.
use Prim.Native.Nat.{◌+◌}
use mathlib.Core.Path.{sym, ap, ◌∙◌}
use native.Mathlib.Omega.{arith}
use lib.Seq.{drop-drop}
use Rattle.bits.specs.Number.{number_in}
use Rattle.bits.specs.Bits.{bytes_bits}
use Rattle.fields.proofs.Onward.{number-there, number_cut, number-end}
use Rattle.plate_constants.proofs.Halves.{halves_in, first_ends, second-ends}
use Rattle.plate_constants.proofs.constant.read_halves.Goals as goal

pub returns-in_default : goal.returns-in_default
returns-in_default c = number_cut _ _ _ (first_ends _ (sym c.read_number.ensures ∙ c.in_default.is))

pub overflow_add-at : goal.overflow_add-at
overflow_add-at c =
    let a = c.args in
    omega (arith, number-end a.plate.now a.at 16 _ (sym c.read_number.ensures ∙ c.in-Some.is))

pub returns-in_default-read_number : goal.returns-in_default-read_number
returns-in_default-read_number c =
    let a = c.args in
    let behind = ap (number_in 16) (drop-drop 16 a.at (bytes_bits a.plate.now)) in
    number_cut _ _ _ (second-ends _ (behind ∙ sym c.read_number-2.ensures ∙ c.in_default-read_number.is))

pub overflow_add-result-2 : goal.overflow_add-result-2
overflow_add-result-2 c =
    let a = c.args in
    omega (arith, number-end a.plate.now (a.at + 16) 16 _ (sym c.read_number-2.ensures ∙ c.in-Some-read_number.is))

pub returns : goal.returns
returns c =
    let a = c.args in
    let behind = ap (number_in 16) (drop-drop 16 a.at (bytes_bits a.plate.now)) in
    let high = sym c.read_number.ensures ∙ c.in-Some.is in
    let low = behind ∙ sym c.read_number-2.ensures ∙ c.in-Some-read_number.is in
    number-there _ _ _ _ (halves_in _ _ _ high low)
