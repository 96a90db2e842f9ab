-- `book_count` meets its contract: the index begins with the number of the book's texts.
use mathlib.Core.Path.{sym}
use native.Mathlib.Omega.{arith}
use Rattle.phrases.proofs.Entries.{indexed-count, index-long}
use Rattle.phrase_lookup.proofs.lookup.Lookup.book_count.Goals as goal

pub bounds-self-inside-0 : goal.bounds-self-inside-0
bounds-self-inside-0 c = omega (arith, index-long _ _ c.self.invariant.indexed)

pub returns-clause-value : goal.returns-clause-value
returns-clause-value c = rw (← c.self.view_is) (sym (indexed-count _ _ c.self.invariant.indexed))

pub returns-clause-upper_bound : goal.returns-clause-upper_bound
returns-clause-upper_bound c = omega (arith, indexed-count _ _ c.self.invariant.indexed, c.self.invariant.indexed.few)
