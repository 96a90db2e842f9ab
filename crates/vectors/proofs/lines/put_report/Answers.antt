-- `put_report` meets its contract: the five values are written one behind the other.
use native.Mathlib.Omega.{arith}
use Rattle.output.proofs.Pour.{then}
use Rattle.vectors.proofs.lines.put_report.Goals as goal

pub returns : goal.returns
returns c =
    let outcome = rw c.from.ensures at c.put_labelled-end-2.ensures in
    let wrong = rw c.wrong.ensures at c.put_labelled.ensures in
    let two = then _ _ _ _ _ _ _ c.put_labelled-end.ensures outcome (omega arith) in
    let three = then _ _ _ _ _ _ _ two c.put_labelled-end-3.ensures (omega arith) in
    let four = then _ _ _ _ _ _ _ three c.put_labelled-end-4.ensures (omega arith) in
    then _ _ _ _ _ _ _ four wrong (omega arith)
