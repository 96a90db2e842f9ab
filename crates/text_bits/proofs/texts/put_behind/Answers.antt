-- `put_behind` meets its contract: a number of two parts has the bits of both.
use native.Mathlib.Omega.{arith}
use lib.Pow.{pow_pos}
use Rattle.bits.proofs.Fields.{bits-behind}
use Rattle.text_bits.proofs.Codes.{unit-is, behind-wide}
use Rattle.text_bits.proofs.texts.put_behind.Goals as goal

pub overflow_mul-front : goal.overflow_mul-front
overflow_mul-front c =
    rw (unit-is c.args.places c.requires.2) (omega (arith, behind-wide c.args.places c.requires.2 c.args.front 0 c.requires.1))

pub nonzero_rem-i : goal.nonzero_rem-i
nonzero_rem-i c = rw (unit-is c.args.places c.requires.2) (pow_pos c.args.places)

pub overflow_add-front : goal.overflow_add-front
overflow_add-front c =
    rw (unit-is c.args.places c.requires.2) (omega (arith, behind-wide c.args.places c.requires.2 c.args.front c.args.i c.requires.1))

pub returns : goal.returns
returns c =
    let a = c.args in
    rw (← bits-behind a.width a.places a.front a.i) (rw (unit-is a.places c.requires.2) at c.put_bits.ensures)
