-- `phrase_at` meets its contract: what is written into the lent tail is written into the buffer.
use Rattle.output.proofs.Tails.{in_tail}
use Rattle.read_plate.proofs.phrase_lines.phrase_at.Goals as goal

pub returns : goal.returns
returns c = in_tail _ _ _ _ _ _ _ c.least-from.ensures c.put_phrase-n.ensures c.sum.ensures
