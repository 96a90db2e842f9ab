-- `enter_lines` meets its contract: the k lines before a have their numbers.
use Rattle.vectors_phrases.proofs.OwnLines.{Lines}
use Rattle.vectors_phrases.proofs.own.enter_lines.Given as goal

abbrev pub invariant-loop-k : goal.invariant-loop-k
invariant-loop-k l = Lines l.book l.own l.initial.index l.index l.k l.a
