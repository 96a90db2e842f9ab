-- `text` meets its contract: a text of the book, or an own phrase, which is the text of its line.
use Prim.Native.Nat.{◌<◌}
use mathlib.Core.Path.{◌∙◌}
use native.Mathlib.Omega.{arith}
use Rattle.phrases.proofs.Texts.{phrase-in-book, phrase-in-own}
use Rattle.phrase_lookup.proofs.lookup.Lookup.text.Goals as goal

pub returns-in-InBook : goal.returns-in-InBook
returns-in-InBook c =
    let there = rw (c.in-InBook.is, ← c.self.view_is) at c.requires in
    rw (c.in-InBook.is, ← c.self.view_is) (c.phrase_text.ensures ∙ phrase-in-book _ _ _ there)

pub returns-in-InOwn : goal.returns-in-InOwn
returns-in-InOwn c =
    let there = rw (c.in-InOwn.is, ← c.self.view_is) at c.requires in
    let few : c.in-InOwn.k < c.self.inside.count = omega (arith, there, c.self.invariant.numbers.whole) in
    rw (c.in-InOwn.is, ← c.self.view_is) (c.phrase_text-in-InOwn.ensures ∙ phrase-in-own _ _ _ _ few)
