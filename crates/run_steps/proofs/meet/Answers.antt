-- `meet` meets its contract: an instruction passed over, or performed.
use Prim.Native.Nat.{◌≤◌, ◌<◌}
use mathlib.Core.Path.{◌∙◌}
use native.Mathlib.Omega.{arith}
use Rattle.instructions.proofs.HeadRead.{instruction-at}
use Rattle.plate_texts.proofs.Known.{known_same}
use Rattle.run_steps.proofs.Meeting.{lay-over, over-less, lay-none, over_none}
use borrow.Author.Rules.{rules}
use Rattle.run_steps.proofs.meet.Goals as goal

pub returns-then-over-gt0 : goal.returns-then-over-gt0
returns-then-over-gt0 c =
    let some : 0 < c.args.over = omega arith in
    record { out_after = lay-over _ _ _ _ _ _ (c.go_on.ensures.out_value _ _ _) some; over_value = (c.go_on.ensures.over_value.0 ∙ over-less _ _ _ some, omega (arith, c.go_on.ensures.over_value.2)); next_value = rw c.go_on.ensures.over_value.1 c.accepted_end-next.ensures }

pub accepted_head-head-requires : goal.accepted_head-head-requires
accepted_head-head-requires c = (c.requires.0, instruction-at _ _ _ _ c.requires.1 c.requires.0)

pub perform_head-requires : goal.perform_head-requires
perform_head-requires c =
    (c.requires.0, c.accepted_head-head.ensures.head_fits, known_same (c.accepted_head-head.ensures.result_value _ _ c.requires.1) c.requires.1, search rules)

pub returns : goal.returns
returns c =
    let none : c.args.over ≤ 0 = omega arith in
    let e = c.accepted_head-head.ensures.result_value _ _ c.requires.1 in
    let out = rw e at c.perform_head.ensures.out_after in
    let over = rw e at c.perform_head.ensures.over_value in
    let next = rw e at c.perform_head.ensures.next_value in
    record { out_after = lay-none _ _ _ _ _ _ out none; over_value = (over_none _ _ _ _ over.0 none, omega (arith, over.1)); next_value = next }
