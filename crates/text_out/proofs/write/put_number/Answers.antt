-- `put_number` meets its contract: a number below 0 has a minus in front of its digits.
use Rattle.std.proofs.Common.{arith}
use Rattle.output.proofs.Pour.{then}
use Rattle.decimals.proofs.Signs.{decimal-plain, decimal-minus}
use Rattle.text_out.proofs.write.put_number.Goals as goal
use Rattle.text_out.proofs.write.put_number.Goals.{then-v-lt0, else-v-lt0}

pub returns : goal.returns
returns c =
    let digits = rw c.unsigned_abs.ensures.value at c.put_natural.ensures in
    elim c.if-v-lt0.branch [
      | then-v-lt0 w ↦
          rw (decimal-minus _ c.ranges.v w.if-v-lt0.true) (then _ _ _ _ _ _ _ w.put_byte-end.ensures (rw (w.end-is, w.out-is) at digits) (omega arith))
      | else-v-lt0 w ↦ rw (decimal-plain _ c.ranges.v w.if-v-lt0.false) (rw (w.end-is, w.out-is) at digits)
    ]
