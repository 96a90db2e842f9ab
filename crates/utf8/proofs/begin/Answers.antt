-- `begin` meets its contract: one row of the table after the other.
use Rattle.std.proofs.Common.{refl, arith}
use Rattle.text.specs.Parts.{all}
use Rattle.text.proofs.Table.{letter_at, begins-never}
use Rattle.utf8.proofs.begin.Goals as goal

pub returns-then-b-le127 : goal.returns-then-b-le127
unfolding all
returns-then-b-le127 c = letter_at _ 0 (omega arith) refl (omega arith) (omega arith)

pub returns-in_default-2 : goal.returns-in_default-2
unfolding all
returns-in_default-2 c = begins-never _ 0x80 0xC1 _ refl (omega arith) (omega arith)

pub returns-then-b-le223 : goal.returns-then-b-le223
unfolding all
returns-then-b-le223 c = letter_at _ 1 (omega arith) refl (omega arith) (omega arith)

pub returns-in-224 : goal.returns-in-224
unfolding all
returns-in-224 c = letter_at _ 2 (omega arith) refl (omega arith) (omega arith)

pub returns-in_default-4 : goal.returns-in_default-4
unfolding all
returns-in_default-4 c = letter_at _ 3 (omega arith) refl (omega arith) (omega arith)

pub returns-in-237 : goal.returns-in-237
unfolding all
returns-in-237 c = letter_at _ 4 (omega arith) refl (omega arith) (omega arith)

pub returns-in_default-5 : goal.returns-in_default-5
unfolding all
returns-in_default-5 c = letter_at _ 5 (omega arith) refl (omega arith) (omega arith)

pub returns-in-240 : goal.returns-in-240
unfolding all
returns-in-240 c = letter_at _ 6 (omega arith) refl (omega arith) (omega arith)

pub returns-in_default-6 : goal.returns-in_default-6
unfolding all
returns-in_default-6 c = letter_at _ 7 (omega arith) refl (omega arith) (omega arith)

pub returns-in-244 : goal.returns-in-244
unfolding all
returns-in-244 c = letter_at _ 8 (omega arith) refl (omega arith) (omega arith)

pub returns-in_default-7 : goal.returns-in_default-7
unfolding all
returns-in_default-7 c = begins-never _ 0xF5 0xFF _ refl (omega arith) (omega arith)
