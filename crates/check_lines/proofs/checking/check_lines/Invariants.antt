-- `check_lines` meets its contract: the n lines before a have no cause, s and the array are held of them, and their own phrases have
-- their numbers.
use Prim.Native.Nat.{◌-◌}
use lib.ListN.{length}
use Rattle.phrases.specs.Lookup.{book_texts}
use Rattle.check_lines.specs.Numbers.{Numbered}
use Rattle.check_lines.proofs.LinesPassed.{Passed}
use Rattle.check_lines.proofs.checking.check_lines.Given as goal

abbrev pub invariant-loop-a : goal.invariant-loop-a
invariant-loop-a l = Passed l.form (book_texts l.book) l.text l.n l.a l.s l.opens × Numbered l.form l.book l.text l.initial.index l.index l.s.own l.n l.a

abbrev pub decreases-loop-a : goal.decreases-loop-a
decreases-loop-a l = length l.text - l.a
