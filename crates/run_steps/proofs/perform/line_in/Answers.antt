-- `line_in` meets its contract: three writings, each where the one before ended.
use native.Mathlib.Omega.{arith}
use Rattle.output.proofs.Pour.{then}
use Rattle.run_steps.proofs.perform.line_in.Goals as goal

pub returns : goal.returns
returns c =
    record { tail_after = then _ _ _ _ _ _ _ (then _ _ _ _ _ _ _ c.begin-text_at.ensures c.copy_text-text.ensures.out_after (omega arith)) c.end-end.ensures (omega arith); next_value = c.copy_text-text.ensures.next_value }
