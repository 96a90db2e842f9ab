-- `known_number` meets its contract: the digits up to the place a + i have the value, and those behind it are still to be read.
use Rattle.std.proofs.Common.{◌+◌}
use Rattle.accepted_lines.proofs.KnownValues.{Reading}
use Rattle.accepted_lines.proofs.values.known_number.Given as goal

abbrev pub invariant-loop-i : goal.invariant-loop-i
invariant-loop-i l = Reading l.s l.a l.value (l.a + l.i)
