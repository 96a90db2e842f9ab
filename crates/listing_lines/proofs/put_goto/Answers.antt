-- `put_goto` meets its contract: the word, the skip and LF are the line.
use native.Mathlib.Omega.{arith}
use Rattle.output.proofs.Pour.{then}
use Rattle.listing_lines.proofs.LineBytes.{one_field}
use Rattle.listing_lines.proofs.put_goto.Goals as goal

pub returns : goal.returns
returns c = rw (← one_field _ _) (then _ _ _ _ _ _ _ (then _ _ _ _ _ _ _ c.put-skip_at.ensures c.put_natural-end.ensures (omega arith)) c.put_byte.ensures (omega arith))
