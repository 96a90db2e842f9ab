-- `check_book` meets its contract: the lines before a are n good lines, and the numbers begin with their index.
use Prim.Native.Nat.{◌-◌, ◌≤◌}
use lib.ListN.{length}
use Rattle.phrase_check.proofs.Checked.{GoodLines}
use Rattle.phrases.proofs.Entered.{Entered}
use Rattle.phrase_check.proofs.check.check_book.Given as goal

abbrev pub invariant-loop-a : goal.invariant-loop-a
invariant-loop-a l = GoodLines l.book l.a l.n × Entered l.index l.initial.index l.book l.a l.n × (l.n ≤ 256) × (l.n ≤ l.a) × (l.a ≤ length l.book) × (385 ≤ length l.initial.index)

abbrev pub decreases-loop-a : goal.decreases-loop-a
decreases-loop-a l = length l.book - l.a
