-- `put_natural` meets its contract: the digits behind the place k are found, from the last one on.
use mathlib.Core.Path.{◌≡◌}
use lib.ListN.{length}
use Rattle.text_out.proofs.Digits.{Behind}
use Rattle.text_out.proofs.write.put_natural.Given as goal

abbrev pub invariant-loop-left : goal.invariant-loop-left
invariant-loop-left l = Behind l.v l.digits l.left l.k × (length l.digits ≡ 20)

abbrev pub decreases-loop-left : goal.decreases-loop-left
decreases-loop-left l = l.left
