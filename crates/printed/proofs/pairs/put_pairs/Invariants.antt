-- `put_pairs` meets its contract: the pairs of the bytes passed are written.
use Rattle.std.proofs.Common.{◌≡◌, take}
use Rattle.output.specs.Pour.{poured}
use Rattle.printed.specs.Pairs.{pairs}
use Rattle.printed.proofs.pairs.put_pairs.Given as goal

abbrev pub invariant-loop-b : goal.invariant-loop-b
invariant-loop-b l = (l.end, l.out) ≡ poured l.at (pairs (take l.b-index l.bytes)) l.initial.out
