-- `bits_out::with_field` meets its contract: the new bits between the high and the low bits of the byte. Assumes nothing.
use Prim.Native.Nat.{ℕ, ◌+◌, ◌*◌, ◌/◌, ◌%◌, ◌≤◌, ◌<◌}
use native.Mathlib.Omega.{arith}
use borrow.Author.Rules.{rules}
use Rattle.bits.proofs.Fields.{field-set, field_below}
use Rattle.bits_out.proofs.with_field.Goals as goal

module _ (c : goal.After-from-old) where
  abbrev unit : ℕ
  unit = c.two_to-unit.result

  abbrev upper : ℕ
  upper = c.from-old.result / unit / c.two_to-values.result * c.two_to-values.result + c.args.value % c.two_to-values.result

  -- the new byte is a byte, and so nothing on the way to it is too large
  below : (upper ≤ upper * unit) × (upper * unit + c.from-old.result % unit < 256)
  below =
      field_below 8 c.args.bit c.args.size _ _ (search rules) c.two_to-unit.ensures.0 c.two_to-values.ensures.0
      c.from-old.result c.args.value (omega arith)

pub overflow_mul-result : goal.overflow_mul-result
overflow_mul-result c = omega (arith, below c)

pub overflow_add-result : goal.overflow_add-result
overflow_add-result c = omega (arith, below c)

pub overflow_mul-result-2 : goal.overflow_mul-result-2
overflow_mul-result-2 c = omega (arith, below c)

pub overflow_add-result-2 : goal.overflow_add-result-2
overflow_add-result-2 c = omega (arith, below c)

pub overflow_cast-result : goal.overflow_cast-result
overflow_cast-result c = omega (arith, below c)

pub returns : goal.returns
returns c =
    let a = c.args in
    rw c.from-old.ensures (field-set 8 a.bit a.size _ _ (search rules) c.two_to-unit.ensures.0 c.two_to-values.ensures.0 a.byte a.value)
