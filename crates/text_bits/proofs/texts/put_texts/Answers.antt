-- `put_texts` meets its contract: the fields from the place a on are left to write.
use Rattle.bits.specs.Bits.{bytes_bits}
use mathlib.Core.Path.{refl}
use borrow.Author.Rules.{rules}
use Rattle.bits.specs.Bits.{bits_of}
use Rattle.text.specs.Parts.{parts_from}
use Rattle.plate.specs.Writing.{texts_bits}
use Rattle.text_bits.proofs.Writes.{begun, turned, done}
use Rattle.text_bits.proofs.TextBits.{texts-next, texts-end}
use Rattle.text_bits.proofs.texts.put_texts.Goals as goal

pub loop-a-init : goal.loop-a-init
loop-a-init c = begun _ _ refl (search rules)

pub loop-a-preserved : goal.loop-a-preserved
unfolding bytes_bits texts_bits parts_from bits_of
loop-a-preserved c =
    let next = texts-next _ _ _ _ c.loop-a-test.true c.find-e.ensures.value in
    turned c.loop-a.invariant _ _ next c.put_text-end.ensures c.requires

pub returns : goal.returns
returns c = done c.loop-a.invariant (texts-end _ _ _ c.loop-a-test.false)
