-- `put_refused` meets its contract: number, place and LF are written one behind the other.
use native.Mathlib.Omega.{arith}
use Rattle.output.proofs.Pour.{then}
use Rattle.printed.specs.Lines.{refused_line}
use Rattle.printed.proofs.lines.put_refused.Goals as goal

pub returns : goal.returns
unfolding refused_line
returns c = let two = then _ _ _ _ _ _ _ c.put_labelled-end.ensures c.put_labelled-end-2.ensures (omega arith) in
    let line = then _ _ _ _ _ _ _ two c.put_byte.ensures (omega arith) in
    rw c.from-number.ensures at line
