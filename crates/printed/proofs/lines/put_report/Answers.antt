-- `put_report` meets its contract: the four numbers behind their labels and LF are written one behind the other.
use native.Mathlib.Omega.{arith}
use Rattle.output.proofs.Pour.{then}
use Rattle.printed.specs.Lines.{report_line}
use Rattle.printed.proofs.lines.put_report.Goals as goal

pub returns : goal.returns
unfolding report_line
returns c =
    let outcome = rw c.from-number.ensures at c.put_labelled-end.ensures in
    let wrong = rw c.wrong-wrong.ensures at c.put_labelled-end-4.ensures in
    let two = then _ _ _ _ _ _ _ outcome c.put_labelled-end-2.ensures (omega arith) in
    let three = then _ _ _ _ _ _ _ two c.put_labelled-end-3.ensures (omega arith) in
    let four = then _ _ _ _ _ _ _ three wrong (omega arith) in
    then _ _ _ _ _ _ _ four c.put_byte.ensures (omega arith)
