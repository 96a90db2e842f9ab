-- `fill` meets its contract: the bytes before the place are those of the content.
use mathlib.Core.Path.{◌≡◌}
use lib.ListN.{take}
use Rattle.vectors.specs.Lent.{content}
use Rattle.vectors.proofs.buffer.fill.Given as goal

abbrev pub invariant-loop-i : goal.invariant-loop-i
invariant-loop-i l = take l.i l.out ≡ content l.i
