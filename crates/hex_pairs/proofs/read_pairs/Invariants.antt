-- `read_pairs` meets its contract: the pairs of the text are those written and those of the lines not yet read.
use Rattle.std.proofs.Common.{length}
use Rattle.hex_pairs.proofs.Reading.{LinesLeft}
use Rattle.hex_pairs.proofs.read_pairs.Given as goal

abbrev pub invariant-loop-i : goal.invariant-loop-i
invariant-loop-i l = LinesLeft l.text l.initial.out (length l.yielded) l.end l.out
