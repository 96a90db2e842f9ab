-- `bits_out::with_bits` meets its contract: the new bits between the high and the low bits of the number. Assumes nothing.
use Prim.Native.Nat.{ℕ, ◌+◌, ◌*◌, ◌/◌, ◌%◌, ◌≤◌, ◌<◌}
use native.Mathlib.Omega.{arith}
use Rattle.bits.proofs.Fields.{field-set, field_below}
use borrow.Author.Rules.{rules}
use Rattle.bits_out.proofs.with_bits.Goals as goal

module _ (c : goal.After-two_to-values) where
  abbrev unit : ℕ
  unit = c.two_to-unit.result

  abbrev upper : ℕ
  upper = c.args.word / unit / c.two_to-values.result * c.two_to-values.result + c.args.value % c.two_to-values.result

  -- the new number has 64 bits, and so nothing on the way to it is too large
  below : (upper ≤ upper * unit) × (upper * unit + c.args.word % unit < 18446744073709551616)
  below =
      field_below 64 c.args.bit c.args.width _ _ (search rules) c.two_to-unit.ensures.0 c.two_to-values.ensures.0
      c.args.word c.args.value (omega arith)

pub overflow_mul-result : goal.overflow_mul-result
overflow_mul-result c = omega (arith, below c)

pub overflow_add-result : goal.overflow_add-result
overflow_add-result c = omega (arith, below c)

pub overflow_mul-result-2 : goal.overflow_mul-result-2
overflow_mul-result-2 c = omega (arith, below c)

pub overflow_add-result-2 : goal.overflow_add-result-2
overflow_add-result-2 c = omega (arith, below c)

pub returns : goal.returns
returns c =
    let a = c.args in
    field-set 64 a.bit a.width _ _ (search rules) c.two_to-unit.ensures.0 c.two_to-values.ensures.0 a.word a.value
