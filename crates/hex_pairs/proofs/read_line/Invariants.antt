-- `read_line` meets its contract: the pairs of the line are those written and those of what is left.
use Rattle.std.proofs.Common.{length}
use Rattle.hex_pairs.proofs.Reading.{Left}
use Rattle.hex_pairs.proofs.read_line.Given as goal

abbrev pub invariant-loop-left : goal.invariant-loop-left
invariant-loop-left l = Left l.at l.line l.initial.out l.end l.left l.out

abbrev pub decreases-loop-left : goal.decreases-loop-left
decreases-loop-left l = length l.left
