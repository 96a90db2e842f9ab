-- `put_buffer` meets its contract: up to 64 bytes as pairs; of more the two checksums with a comma between.
use native.Mathlib.Omega.{arith}
use borrow.Author.Tests.{le-leb, lt-leb}
use Rattle.output.proofs.Pour.{then}
use Rattle.vectors.specs.Sums.{buffer_text}
use Rattle.vectors.proofs.buffer.put_buffer.Goals as goal

pub returns-then-bytes-le64 : goal.returns-then-bytes-le64
unfolding buffer_text
returns-then-bytes-le64 c = rw (le-leb _ 64 c.if-bytes-le64.true) c.put_pairs.ensures

pub returns : goal.returns
unfolding buffer_text
returns c =
    let first = rw c.sum.ensures at c.put_natural-end.ensures in
    let second = rw c.sum-2.ensures at c.put_natural.ensures in
    let one = then _ _ _ _ _ _ _ first c.put_byte-end.ensures (omega arith) in
    rw (lt-leb _ 64 c.if-bytes-le64.false) (then _ _ _ _ _ _ _ one second (omega arith))
