-- `put_question` meets its contract: three writings, each where the one before ended, are one.
use native.Mathlib.Omega.{arith}
use Rattle.output.proofs.Pour.{then}
use Rattle.listing_lines.proofs.put_question.Goals as goal

pub returns : goal.returns
returns c = record { tail_after = then _ _ _ _ _ _ _ c.put_natural-end.ensures (then _ _ _ _ _ _ _ c.put_byte-text_at.ensures c.copy_text.ensures.out_after (omega (arith, c.well_formed))) (omega (arith, c.well_formed)); next_value = c.copy_text.ensures.next_value }
