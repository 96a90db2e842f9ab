-- `copy` meets its contract: the first i bytes are stored.
use mathlib.Core.Path.{◌≡◌}
use lib.ListN.{take}
use Rattle.output.specs.Pour.{pour}
use Rattle.text_out.proofs.write.copy.Given as goal

abbrev pub invariant-loop-i : goal.invariant-loop-i
invariant-loop-i l = l.out ≡ pour l.at (take l.i l.text) l.initial.out
