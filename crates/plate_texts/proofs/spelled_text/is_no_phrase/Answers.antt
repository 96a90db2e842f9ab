-- `is_no_phrase` meets its contract: where there are no phrases, the text is none.
use mathlib.Core.Path.{sym, ◌∙◌}
use borrow.Author.Tests.{eq-eqb}
use Rattle.plate_texts.proofs.Spelled.{none-there}
use Rattle.plate_texts.proofs.spelled_text.is_no_phrase.Goals as goal

pub returns-then-count-eq0 : goal.returns-then-count-eq0
returns-then-count-eq0 c = eq-eqb _ _ c.if-count-eq0.true ∙ sym (none-there _ _ (sym c.count.ensures ∙ c.if-count-eq0.true))
