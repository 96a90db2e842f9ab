-- `bits_in::read_bytes` meets its contract. The loop's invariant: what is read and what is left make the whole number.
-- The measure is what is left. Assumes nothing.
use Prim.Native.Nat.{ℕ, ◌+◌, ◌-◌, ◌*◌, ◌/◌, ◌%◌}
use mathlib.Core.Path.{sym, ap, ◌∙◌}
use native.Mathlib.Omega.{arith}
use lib.ListN.{drop, length-drop}
use borrow.Author.Rules.{rules}
use Rattle.std.specs.Prelude.{Some}
use Rattle.bits.specs.Bits.{bytes_bits}
use Rattle.bits.proofs.Bytes.{length-bytes_bits}
use Rattle.bits.proofs.Turns.{PartRead, read-start, read-turn, read_below, read-end}
use Rattle.bits.proofs.Reading.{number-in, number-none}
use Rattle.bits_in.proofs.read_bytes.Goals as goal

-- a turn
module _ (c : goal.After-two_to) where
  abbrev size : ℕ
  size = c.min-size.result

  abbrev place : ℕ
  place = (c.loop-left.index + (c.loop-left.bit + size) / 8) * 8 + (c.loop-left.bit + size) % 8

  next : PartRead c.args.bytes.now c.args.at c.args.width
      (c.loop-left.value * c.two_to.result + c.field-part.result) place (c.loop-left.left - size)
  next =
      read-turn c.loop-left.index c.loop-left.bit c.loop-left.left size _ _ place c.loop-left.invariant.3 c.two_to.ensures.0
      c.field-part.ensures (omega arith) (omega arith) (omega arith) (omega arith) (omega arith)

pub returns-then-room-width : goal.returns-then-room-width
returns-then-room-width c =
    let a = c.args in
    sym (number-none a.width (drop a.at (bytes_bits a.bytes.now)) (simp (length-drop, length-bytes_bits) (omega arith)))

pub loop-left-init : goal.loop-left-init
loop-left-init c = (search rules, search rules, search rules, read-start _ _ _ _ (omega arith))

pub overflow_mul-value : goal.overflow_mul-value
overflow_mul-value c = omega (arith, read_below (next c) (omega arith) (omega arith))

pub overflow_add-value : goal.overflow_add-value
overflow_add-value c = omega (arith, read_below (next c) (omega arith) (omega arith))

pub loop-left-preserved : goal.loop-left-preserved
loop-left-preserved c = (search rules, search rules, search rules, next c)

pub overflow_cast-result : goal.overflow_cast-result
overflow_cast-result c = record { fits = read_below c.loop-left.invariant.3 (omega arith) (omega arith) }

pub returns : goal.returns
returns c =
    let a = c.args in
    ap Some (read-end c.loop-left.invariant.3 (omega arith))
    ∙ sym (number-in a.width (drop a.at (bytes_bits a.bytes.now)) (simp (length-drop, length-bytes_bits) (omega arith)))
