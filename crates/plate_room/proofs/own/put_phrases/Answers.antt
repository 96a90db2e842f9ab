-- `put_phrases` meets its contract: the phrases from the place a on are left to write.
use mathlib.Core.Path.{ap}
use borrow.Author.Rules.{rules}
use Rattle.bits.specs.Bits.{bytes_bits}
use Rattle.phrases.specs.Lookup.{own_texts}
use Rattle.phrases.proofs.FirstLines.{own-whole, own-none, own-end, own-next}
use Rattle.plate.specs.Writing.{phrases_bits}
use Rattle.text_bits.proofs.Writes.{begun, turned, done}
use Rattle.plate_room.proofs.own.put_phrases.Goals as goal

pub loop-init : goal.loop-init
loop-init c = (begun _ _ (ap phrases_bits (own-whole _ _)) (search rules), search rules)

pub returns-then-own-a : goal.returns-then-own-a
unfolding phrases_bits
returns-then-own-a c = done c.loop.invariant.0 (ap phrases_bits (own-end _ _ _ _ c.if-own-a.true))

pub loop-preserved : goal.loop-preserved
unfolding bytes_bits phrases_bits own_texts
loop-preserved c =
    let next = ap phrases_bits (own-next _ _ _ _ _ c.loop-test.true c.if-own-a.false c.find-e.ensures.value) in
    let spelled = rw c.part.ensures at c.put_spelled-end.ensures in
    (turned c.loop.invariant.0 _ _ next spelled c.requires, search rules)

pub returns : goal.returns
unfolding phrases_bits
returns c = done c.loop.invariant.0 (ap phrases_bits (own-none _ _ _ _ c.loop-test.false))
