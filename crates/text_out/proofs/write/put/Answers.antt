-- `put` meets its contract: what has room is copied, and all is counted.
use Rattle.std.proofs.Common.{sym, ◌∙◌, arith}
use Rattle.output.proofs.Pour.{both, pour-past}
use Rattle.output.proofs.Parts.{pour-room}
use Rattle.text_out.proofs.write.put.Goals as goal

pub returns-then-end-out : goal.returns-then-end-out
returns-then-end-out c = both _ _ _ _ _ c.sum-end.ensures c.copy.ensures

pub returns-then-at-out : goal.returns-then-at-out
returns-then-at-out c =
    both _ _ _ _ _ c.sum-end.ensures (c.copy-then-at-out.ensures ∙ pour-room c.args.at _ c.args.text.now c.args.out.now (omega arith))

pub returns-else-at-out : goal.returns-else-at-out
returns-else-at-out c = both _ _ _ _ _ c.sum-end.ensures (sym (pour-past _ _ _ c.if-at-out.false))
