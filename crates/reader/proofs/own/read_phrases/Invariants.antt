-- `read_phrases` meets its contract. The loop's invariant: the phrases passed are written and entered, and with those behind them they are
-- all.
use Rattle.std.proofs.Common.{◌≤◌}
use Rattle.reader.proofs.OwnEntered.{OwnEntered}
use Rattle.reader.proofs.own.read_phrases.Given as goal

abbrev pub invariant-loop-k : goal.invariant-loop-k
invariant-loop-k l = OwnEntered l.plate l.book l.at l.count l.initial.own l.own l.initial.index l.index l.bit l.end l.k × (l.k ≤ l.count)
