-- `find_far` meets its contract: 16 bytes without x are passed over.
use mathlib.Core.Path.{sym, ◌∙◌}
use borrow.Author.Rules.{rules}
use Rattle.text.proofs.Searches.{until-past}
use Rattle.text.proofs.search.find_far.Goals as goal

pub loop-at-preserved : goal.loop-at-preserved
loop-at-preserved c = (c.loop-at.invariant.0 ∙ until-past _ _ _ _ (sym c.has.ensures ∙ c.if-not-has.true), search rules)
