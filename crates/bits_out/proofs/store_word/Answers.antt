-- `bits_out::store_word` meets its contract: the eight bytes have the bits of the number. Assumes nothing.
use Rattle.std.proofs.Common.{arith, ◌∙◌}
use Rattle.bits_out.proofs.WordWriting.{word-stored}
use Rattle.bits_out.proofs.store_word.Goals as goal

pub returns : goal.returns
returns c =
    let a = c.args in
    word-stored a.out.now a.index _ a.word _ (omega arith) (omega arith) (c.copy_from_slice.ensures.after ∙ c.to_be_bytes.ensures)
