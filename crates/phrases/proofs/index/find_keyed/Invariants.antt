-- `find_keyed` meets its contract: no text from the link on is the one looked for, and each link is smaller.
use Rattle.phrases.specs.Lookup.{book_texts}
use Rattle.phrases.proofs.Keys.{Searched}
use Rattle.phrases.proofs.index.find_keyed.Given as goal

abbrev pub invariant-loop-next : goal.invariant-loop-next
invariant-loop-next l = Searched (book_texts l.book) l.text l.next

abbrev pub decreases-loop-next : goal.decreases-loop-next
decreases-loop-next l = l.next
