-- `put_place` meets its contract: the bit stands only where both have phrases, and all bits are one number.
use native.Mathlib.Omega.{arith}
use mathlib.Core.Path.{◌≡◌, sym, ◌∙◌}
use mathlib.Core.List.{[], append-nil, append_assoc}
use mathlib.Core.Logic.{inl, inr}
use Rattle.plate.specs.Writing.{own_bit}
use Rattle.text_bits.proofs.Codes.{phrase-code, source-code}
use Rattle.text_bits.proofs.TextBits.{Placed, placed-book, placed-own, own-bit-no-book, own-bit-no-own, own-bit-both}
use Rattle.text_bits.proofs.texts.put_place.Goals as goal
use Rattle.text_bits.proofs.texts.put_place.Goals.{Joined-found, in-InBook, in-InOwn}

placed : (c : Joined-found) → Placed c.args.known.now c.args.found c.match-found.source.0 c.match-found.source.1 c.match-found.source.2
placed c =
    elim c.match-found.branch [
      | in-InBook w ↦ rw (w.source-is, w.in-InBook.is) (placed-book _ _ c.book_count-book.ensures.value (omega (arith, c.book_count-book.ensures.upper_bound)) w.width_of.ensures)
      | in-InOwn w ↦ rw (w.source-is, w.in-InOwn.is) (placed-own _ _ c.own_count-own.ensures.value (omega (arith, c.own_count-own.ensures.upper_bound)) w.width_of-in-InOwn.ensures)
    ]

pub put_behind-requires : goal.put_behind-requires
put_behind-requires c =
    let p = placed (goal.at.put_behind-requires c).Joined-found in
    (omega arith, omega arith, omega (arith, p.few))

pub put_behind-requires-else-own-eq0 : goal.put_behind-requires-else-own-eq0
put_behind-requires-else-own-eq0 c =
    let p = placed (goal.at.put_behind-requires-else-own-eq0 c).Joined-found in
    (omega arith, omega (arith, p.low), omega (arith, p.few))

pub returns-then-own-eq0 : goal.returns-then-own-eq0
returns-then-own-eq0 c = λ t h.
    let a = c.args in
    let p = placed (goal.at.returns-then-own-eq0 c).Joined-found in
    let bit : own_bit a.known.now.book a.known.now.own c.match-found.source.0 ≡ [] =
    elim c.if-own-eq0.either [
      | inl e ↦ own-bit-no-book _ _ _ (sym c.book_count-book.ensures.value ∙ e)
      | inr e ↦ own-bit-no-own _ _ _ (sym c.own_count-own.ensures.value ∙ e.1)
    ] in
    rw (p.bits t h, bit, append-nil, ← append_assoc, ← phrase-code a.width a.front) c.put_behind.ensures

pub returns-else-own-eq0 : goal.returns-else-own-eq0
returns-else-own-eq0 c = λ t h.
    let a = c.args in
    let p = placed (goal.at.returns-else-own-eq0 c).Joined-found in
    let bit = own-bit-both c.match-found.source.0 a.known.now.book a.known.now.own (λ e. c.if-own-eq0.false.0 (c.book_count-book.ensures.value ∙ e)) (λ e. c.if-own-eq0.false.1 (c.own_count-own.ensures.value ∙ e)) in
    rw (p.bits t h, bit, ← append_assoc, ← append_assoc, ← source-code a.width a.front c.match-found.source.0 p.low) c.put_behind-else-own-eq0.ensures
