-- `phrase_text` meets its contract: a text of the book, or an own phrase.
use mathlib.Core.Path.{sym, ◌∙◌}
use Rattle.phrases.specs.Lookup.{phrase_in}
use Rattle.phrases.specs.Own.{own_text}
use Rattle.phrases.proofs.Texts.{phrase-in-book}
use Rattle.phrase_lookup.proofs.lookup.phrase_text.Goals as goal

pub own_at-requires : goal.own_at-requires
own_at-requires c = (c.requires.0, c.requires.2 c.if-is_own.true)

pub returns-then-is_own : goal.returns-then-is_own
unfolding phrase_in own_text
returns-then-is_own c = simp c.if-is_own.true c.own_at.ensures

pub text_of-requires : goal.text_of-requires
text_of-requires c = (c.requires.0, c.requires.1 c.if-is_own.false)

pub returns-else-is_own : goal.returns-else-is_own
returns-else-is_own c =
    let there = phrase-in-book c.args.book.now c.args.own.now c.args.i (c.requires.1 c.if-is_own.false) in
    c.text_of.ensures ∙ sym (rw c.if-is_own.false there)
