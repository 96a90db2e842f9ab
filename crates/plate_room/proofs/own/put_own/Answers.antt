-- `put_own` meets its contract: no phrase is one bit, and some are counted and spelled.
use mathlib.Core.Path.{sym, ◌∙◌}
use Rattle.phrases.specs.Lookup.{own_texts}
use Rattle.text_bits.proofs.Writes.{both}
use Rattle.plate_room.proofs.OwnBits.{own-nothing, own-some}
use Rattle.plate_room.proofs.own.put_own.Goals as goal

pub returns-then-count-eq0 : goal.returns-then-count-eq0
returns-then-count-eq0 c =
    let a = c.args in
    rw (own-nothing (own_texts a.count a.own.now) (c.requires.1 ∙ c.if-count-eq0.true)) c.put_bits.ensures

pub returns : goal.returns
returns c =
    let a = c.args in
    let some = own-some (own_texts a.count a.own.now) (λ z. c.if-count-eq0.false (sym c.requires.1 ∙ z)) in
    let front = both _ _ _ _ c.put_bits-end.ensures (rw (sym c.requires.1) at c.put_bits-end-2.ensures) c.requires.0 in
    rw some (both _ _ _ _ front c.put_phrases.ensures c.requires.0)
