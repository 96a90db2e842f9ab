-- `else_fault` meets its contract: an if is open, the innermost has had no `else`, and there is room.
use borrow.Author.Tests.{eq-eqb, ne_eqb}
use Rattle.check_lines.proofs.OpenIfs.{none_open, innermost}
use Rattle.check_lines.proofs.fault.else_fault.Goals as goal
use Rattle.check_lines.proofs.fault.else_fault.Goals.{then-s-eq0-via-then-s-eq0, then-s-eq0-via-else-s-eq0+then-opens-s-eq1}

pub returns-then-s-eq0 : goal.returns-then-s-eq0
returns-then-s-eq0 c =
    elim c.then-s-eq0.branch [
      | then-s-eq0-via-then-s-eq0 w ↦ simp (none_open c.args.opens.now _ w.if-s-eq0.true)
      | then-s-eq0-via-else-s-eq0+then-opens-s-eq1 w ↦
          simp (innermost c.args.opens.now _ w.if-s-eq0.false, eq-eqb _ _ w.if-opens-s-eq1.true)
    ]

pub returns : goal.returns
returns c = simp (innermost c.args.opens.now _ c.if-s-eq0.false, ne_eqb _ _ c.if-opens-s-eq1.false) c.room_fault.ensures
