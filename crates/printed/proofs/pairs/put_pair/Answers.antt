-- `put_pair` meets its contract: one digit is written behind the other.
use native.Mathlib.Omega.{arith}
use Rattle.output.proofs.Pour.{then}
use Rattle.printed.proofs.pairs.put_pair.Goals as goal

pub returns : goal.returns
returns c = let first = rw c.digit.ensures at c.put_byte-end.ensures in
    let second = rw c.digit-2.ensures at c.put_byte.ensures in
    then _ _ _ _ _ _ _ first second (omega arith)
