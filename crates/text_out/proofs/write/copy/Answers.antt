-- `copy` meets its contract: the first i bytes are stored.
use mathlib.Core.Path.{sym, ap, ◌∙◌}
use Prim.Native.Nat.{◌+◌}
use lib.ListN.{get_or, set}
use lib.Seq.{take_all}
use Rattle.output.proofs.Pour.{pour-none, pour-more}
use Rattle.text_out.proofs.write.copy.Goals as goal

pub loop-i-init : goal.loop-i-init
loop-i-init c = sym (pour-none _ _)

pub loop-i-preserved : goal.loop-i-preserved
loop-i-preserved c = ap (λ o. set o (c.args.at + c.loop-i.i) (get_or c.args.text.now c.loop-i.i 0)) c.loop-i.invariant ∙ sym (pour-more _ _ _ _ 0 c.loop-i-test.true)

pub returns : goal.returns
returns c = rw (take_all _ _ c.loop-i-test.false) at c.loop-i.invariant
