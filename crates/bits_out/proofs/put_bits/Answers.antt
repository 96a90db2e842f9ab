-- `bits_out::put_bits` meets its contract: behind the end, or within. Assumes nothing.
use Rattle.std.proofs.Common.{ap, ◌∙◌}
use Rattle.bits.specs.Bits.{bytes_bits}
use Rattle.bits_out.proofs.Writing.{all-written, none_written}
use Rattle.bits_out.proofs.put_bits.Goals as goal
use Rattle.bits_out.proofs.put_bits.Goals.{then-at-out, else-at-out}

pub returns : goal.returns
returns c =
    let a = c.args in
    elim c.if-at-out.branch [
      | then-at-out w ↦ all-written a.out.now _ a.at a.width a.value _ (ap bytes_bits w.out-is ∙ w.put_word.ensures) c.sum.ensures
      | else-at-out w ↦ all-written a.out.now _ a.at a.width a.value _ (ap bytes_bits w.out-is ∙ none_written _ a.at _ w.if-at-out.false) c.sum.ensures
    ]
