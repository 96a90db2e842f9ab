-- `enter_phrase` meets its contract: the text stands 7 bytes behind the line's start.
use mathlib.Core.Path.{sym, ◌∙◌}
use native.Mathlib.Omega.{arith}
use borrow.Author.Rules.{rules}
use Rattle.check_lines.proofs.OwnEntered.{entered-phrase, entered-other}
use Rattle.check_lines.proofs.numbers.enter_phrase.Goals as goal

pub overflow_add-start : goal.overflow_add-start
overflow_add-start c = let p = c.requires c.in-Phrase.is in omega arith

pub slice_bounds-enter_own-count : goal.slice_bounds-enter_own-count
slice_bounds-enter_own-count c = let p = c.requires c.in-Phrase.is in omega arith

pub slice_bounds-enter_own-start : goal.slice_bounds-enter_own-start
slice_bounds-enter_own-start c = let p = c.requires c.in-Phrase.is in omega arith

pub slice_bounds-enter_own-end : goal.slice_bounds-enter_own-end
slice_bounds-enter_own-end c = let p = c.requires c.in-Phrase.is in omega arith

pub enter_own-requires : goal.enter_own-requires
enter_own-requires c =
    let p = c.requires c.in-Phrase.is in
    (p.place, p.near, search rules)

pub returns-in-Phrase : goal.returns-in-Phrase
returns-in-Phrase c = c.enter_own.ensures ∙ sym (entered-phrase _ _ _ _ _ c.in-Phrase.is)

pub returns-in_default : goal.returns-in_default
returns-in_default c = sym (entered-other _ _ _ _ _ _ c.in_default.not-Phrase)
