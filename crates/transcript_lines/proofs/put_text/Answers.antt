-- `put_text` meets its contract: what is written into the lent tail is written into the buffer.
use Rattle.output.proofs.Tails.{in_tail}
use borrow.Author.Rules.{rules}
use Rattle.transcript_lines.proofs.put_text.Goals as goal

pub returns : goal.returns
returns c = in_tail _ _ _ _ _ _ _ c.least-from.ensures c.text_in-n.ensures c.sum.ensures
