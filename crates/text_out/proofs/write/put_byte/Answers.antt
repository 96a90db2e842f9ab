-- `put_byte` meets its contract: the byte is written where there is room.
use mathlib.Core.Path.{sym, ◌∙◌}
use lib.Seq.{set_out}
use Rattle.output.proofs.Pour.{one}
use Rattle.text_out.proofs.write.put_byte.Goals as goal
use Rattle.text_out.proofs.write.put_byte.Goals.{then-at-out, else-at-out}

pub returns : goal.returns
returns c =
    one _ _ _ _ _ c.sum.ensures
    (elim c.if-at-out.branch [ then-at-out w ↦ w.out-is | else-at-out w ↦ w.out-is ∙ sym (set_out _ _ _ w.if-at-out.false) ])
