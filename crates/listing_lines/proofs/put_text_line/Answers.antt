-- `put_text_line` meets its contract: the word, the text and LF, each written where the one before ended.
use native.Mathlib.Omega.{arith}
use Rattle.output.proofs.Pour.{then}
use Rattle.listing_lines.proofs.put_text_line.Goals as goal

pub returns : goal.returns
returns c = record { tail_after = then _ _ _ _ _ _ _ (then _ _ _ _ _ _ _ c.put-text_at.ensures c.copy_text-copied.ensures.out_after (omega arith)) c.put_byte-end.ensures (omega arith); next_value = c.copy_text-copied.ensures.next_value }
