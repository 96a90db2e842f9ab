-- The measure of `block_length` and `statement_length` is the number of unread lines, twice.
use Prim.Native.Nat.{◌*◌, ◌+◌, ◌≤◌}
use lib.ListN.{length, drop}
use Rattle.lines.specs.declared.Form.TheVariants.{Guide as a_guide}
use Rattle.lines.specs.Clean.{Clean}
use Rattle.guide.specs.Lines.{lines_at}
use Rattle.translate.proofs.Counting.{LeftFrom}
use Rattle.translate.proofs.lengths.+block_length_statement_length.Given as goal

abbrev pub decreases-block_length : goal.decreases-block_length
decreases-block_length l = 2 * length (lines_at l.guide.now l.a)

abbrev pub decreases-statement_length : goal.decreases-statement_length
decreases-statement_length l = 2 * length (lines_at l.guide.now l.next) + 1

abbrev pub invariant-block_length-loop-at : goal.invariant-block_length-loop-at
invariant-block_length-loop-at l =
    LeftFrom l.guide l.a l.first l.initial.skips l.instructions l.at l.skips
    × (l.instructions + length (lines_at l.guide l.at) ≤ length (lines_at l.guide l.a))
    × (l.at ≤ length l.guide)
    × Clean a_guide (drop l.at l.guide)

abbrev pub decreases-block_length-loop-at : goal.decreases-block_length-loop-at
decreases-block_length-loop-at l = length (lines_at l.guide l.at)
