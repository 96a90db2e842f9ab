-- `leave_else` meets its contract: the `fi` is passed.
use native.Mathlib.Omega.{arith}
use Rattle.guide.proofs.Reading.{rest-no-more}
use Rattle.walk_blocks.proofs.Leaving.{leaves-as, paced-here}
use Rattle.walk_blocks.proofs.Cycle.{leave-second}
use Rattle.walk_blocks.proofs.leave.leave_else.Goals as goal

pub returns : goal.returns
returns c =
    let k = rest-no-more _ _ _ _ c.role_at-h.ensures in record { leaves = (λ rs answers out. leaves-as _ _ _ _ _ _ _ _ (c.here.ensures.by_index _ rs answers out) _ (leave-second _ _ _ _ c.role_at-h.ensures _)); paced = paced-here _ _ _ _ c.here.ensures.place_value.0 (omega arith) (omega arith) (omega arith) c.role_at-h.ensures.clean }
