-- `find_phrase` meets its contract: a place in the book, else one among the own phrases.
use mathlib.Core.Path.{sym, ◌∙◌}
use Rattle.phrases.specs.Phrases.{find}
use Rattle.phrase_lookup.proofs.lookup.find_phrase.Goals as goal

pub returns-in-Some : goal.returns-in-Some
unfolding find
returns-in-Some c = simp (sym c.find_keyed.ensures ∙ c.in-Some.is)

pub returns-in_err-k : goal.returns-in_err-k
unfolding find
returns-in_err-k c = simp (sym c.find_keyed.ensures ∙ c.in_default.is, sym c.find_own.ensures ∙ c.in_err-k.was) c.from_residual.ensures

pub returns : goal.returns
unfolding find
returns c = simp (sym c.find_keyed.ensures ∙ c.in_default.is, sym c.find_own.ensures ∙ c.in_ok-k.was)
