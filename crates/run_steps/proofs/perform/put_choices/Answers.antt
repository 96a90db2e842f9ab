-- `put_choices` meets its contract: what is written into the lent tail is written into the buffer.
use Rattle.output.proofs.Tails.{in_tail}
use Rattle.run_steps.proofs.perform.put_choices.Goals as goal

pub returns : goal.returns
returns c = record {
  out_after = in_tail _ _ _ _ _ _ _ c.least-from.ensures c.choices_in-line.ensures.tail_after c.sum-end.ensures;
  offers = c.choices_in-line.ensures.offers;
  next_value = c.choices_in-line.ensures.next_value;
}
