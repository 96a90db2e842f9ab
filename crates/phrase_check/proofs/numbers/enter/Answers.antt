-- `enter` meets its contract.
use lib.ListN.{length-set}
use borrow.Author.Rules.{rules}
use Rattle.phrase_check.proofs.numbers.enter.Goals as goal

pub bounds-index-list-2 : goal.bounds-index-list-2
bounds-index-list-2 c = simp length-set (search rules)

pub bounds-index-n : goal.bounds-index-n
bounds-index-n c = simp length-set (search rules)
