-- `follow` meets its contract: the byte lies in the range due, or not.
use Rattle.std.proofs.Common.{arith}
use Rattle.text.specs.Utf8.{◌to◌}
use Rattle.text.proofs.Table.{is_within, under, over}
use Rattle.utf8.proofs.Steps.{step-begins, step-wrong, step-on}
use Rattle.utf8.proofs.follow.Goals as goal
use Rattle.utf8.proofs.follow.Goals.{else-due-b-via-then-due-b+else-b-due, else-due-b-via-else-due-b}

pub returns-then-due-eq0 : goal.returns-then-due-eq0
returns-then-due-eq0 c = step-begins _ _ _ _ c.begin.result c.if-due-eq0.true c.begin.ensures

pub returns-then-b-due : goal.returns-then-b-due
returns-then-b-due c =
    let due = c.args.due in
    step-on _ due.least due.most _ c.if-due-eq0.false (is_within (due.least to due.most) _ (omega arith) (omega arith))

pub returns-else-due-b : goal.returns-else-due-b
returns-else-due-b c =
    let due = c.args.due in
    step-wrong _ _ _ _ c.if-due-eq0.false (elim c.else-due-b.branch [
      | else-due-b-via-then-due-b+else-b-due w ↦ over (due.least to due.most) _ w.if-b-due.false
      | else-due-b-via-else-due-b w ↦ under (due.least to due.most) _ w.if-due-b.false
    ])
