-- `text_at` is safe and ends: a phrase of the book is asked only where there is one.
use mathlib.Core.Bool.{false≢true}
use native.Mathlib.Omega.{arith}
use Rattle.phrases.proofs.Entries.{indexed-count}
use borrow.Author.Rules.{rules}
use Rattle.vectors_phrases.proofs.text_at.Goals as goal

pub phrase_text-requires-then-i-count_of : goal.phrase_text-requires-then-i-count_of
phrase_text-requires-then-i-count_of c = (search rules, λ book. omega (arith, c.if-i-count_of.true, c.count_of.ensures, indexed-count _ _ c.requires.0), λ own. absurd (false≢true own))
