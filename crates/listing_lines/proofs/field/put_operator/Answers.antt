-- `put_operator` meets its contract: a comma, and the word of each operator.
use native.Mathlib.Omega.{arith}
use Rattle.output.proofs.Pour.{then}
use Rattle.listing_lines.proofs.field.put_operator.Goals as goal

pub returns-in-Eq : goal.returns-in-Eq
returns-in-Eq c = rw c.in-Eq.is (then _ _ _ _ _ _ _ c.put_byte-end.ensures c.put.ensures (omega arith))

pub returns-in-Ne : goal.returns-in-Ne
returns-in-Ne c = rw c.in-Ne.is (then _ _ _ _ _ _ _ c.put_byte-end.ensures c.put-in-Ne.ensures (omega arith))

pub returns-in-Lt : goal.returns-in-Lt
returns-in-Lt c = rw c.in-Lt.is (then _ _ _ _ _ _ _ c.put_byte-end.ensures c.put-in-Lt.ensures (omega arith))

pub returns-in-Le : goal.returns-in-Le
returns-in-Le c = rw c.in-Le.is (then _ _ _ _ _ _ _ c.put_byte-end.ensures c.put-in-Le.ensures (omega arith))

pub returns-in-Gt : goal.returns-in-Gt
returns-in-Gt c = rw c.in-Gt.is (then _ _ _ _ _ _ _ c.put_byte-end.ensures c.put-in-Gt.ensures (omega arith))

pub returns-in-Ge : goal.returns-in-Ge
returns-in-Ge c = rw c.in-Ge.is (then _ _ _ _ _ _ _ c.put_byte-end.ensures c.put-in-Ge.ensures (omega arith))
