-- `put_place` meets its contract where it is nowhere, and at a line of the book.
use native.Mathlib.Omega.{arith}
use Rattle.output.proofs.Pour.{none}
use Rattle.refusal_words.proofs.put_place.Goals as goal

pub returns-in-Nowhere : goal.returns-in-Nowhere
returns-in-Nowhere c = rw c.in-Nowhere.is (none _ _ (omega arith))

pub returns-in-BookLine : goal.returns-in-BookLine
returns-in-BookLine c = rw c.in-BookLine.is c.put_numbered.ensures
