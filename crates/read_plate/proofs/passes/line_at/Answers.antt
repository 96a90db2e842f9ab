-- `line_at` meets its contract: what is written into the lent tail is written into the buffer.
use Rattle.output.proofs.Tails.{in_tail}
use Rattle.read_plate.proofs.passes.line_at.Goals as goal

pub returns : goal.returns
returns c = record { out_after = in_tail _ _ _ _ _ _ _ c.least-from.ensures c.put_instruction-copied.ensures.tail_after c.sum-end.ensures; next_value = c.put_instruction-copied.ensures.next_value }
