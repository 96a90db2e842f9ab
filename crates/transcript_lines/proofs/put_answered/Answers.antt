-- `put_answered` meets its contract: what is written into the lent tail is written into the buffer.
use mir.Facts.{to_z-of_z}
use Rattle.output.proofs.Tails.{in_tail}
use borrow.Author.Rules.{rules}
use Rattle.transcript_lines.proofs.put_answered.Goals as goal

pub returns : goal.returns
returns c = in_tail _ _ _ _ _ _ _ c.least-from.ensures (rw (to_z-of_z c.ranges.v) at c.answer_in-n.ensures) c.sum.ensures
