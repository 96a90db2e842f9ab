-- `put_refused` meets its contract: the number and the place are written one behind the other.
use native.Mathlib.Omega.{arith}
use Rattle.output.proofs.Pour.{then}
use Rattle.vectors.proofs.lines.put_refused.Goals as goal

pub returns : goal.returns
returns c =
    let number = rw c.from.ensures at c.put_labelled-end.ensures in
    then _ _ _ _ _ _ _ number c.put_labelled.ensures (omega arith)
