-- `leave_true` meets its contract: the else block and the `fi` are passed.
use mathlib.Core.Path.{sym, ◌∙◌}
use native.Mathlib.Omega.{arith}
use Rattle.walk_blocks.proofs.Leaving.{leaves-as, paced-here}
use Rattle.guide.proofs.Reading.{rest-no-more, else-less}
use Rattle.guide.proofs.Passing.{passed-no-more}
use Rattle.walk_blocks.proofs.Cycle.{leave-turned, leave-closed}
use Rattle.walk_blocks.proofs.leave.leave_true.Goals as goal

pub stepped-n-requires : goal.stepped-n-requires
stepped-n-requires c = omega (arith, else-less _ _ _ _ c.role_at-h.ensures (sym c.is_else.ensures ∙ c.if-is_else.true))

pub returns-then-is_else : goal.returns-then-is_else
returns-then-is_else c =
    let v = sym c.is_else.ensures ∙ c.if-is_else.true in
    let k = else-less _ _ _ _ c.role_at-h.ensures v in
    let l = passed-no-more _ _ _ _ _ c.pass_over.ensures.result_value c.role_at-f.ensures in record { leaves = (λ rs answers out. leaves-as _ _ _ _ _ _ _ _ (c.here.ensures.by_index _ rs answers out) _ (leave-turned _ _ _ _ c.role_at-h.ensures _ _ _ _ _ v c.pass_over.ensures.result_value c.role_at-f.ensures (c.stepped-n.ensures.result_value rs answers))); paced = paced-here _ _ _ _ c.here.ensures.place_value.0 (omega arith) (omega arith) (omega arith) c.role_at-f.ensures.clean }

pub returns : goal.returns
returns c =
    let k = rest-no-more _ _ _ _ c.role_at-h.ensures in record { leaves = (λ rs answers out. leaves-as _ _ _ _ _ _ _ _ (c.here-2.ensures.by_index _ rs answers out) _ (leave-closed _ _ _ _ c.role_at-h.ensures _ (sym c.is_else.ensures ∙ c.if-is_else.false))); paced = paced-here _ _ _ _ c.here-2.ensures.place_value.0 (omega arith) (omega arith) (omega arith) c.role_at-h.ensures.clean }
