-- `read_skip` meets its contract: it is a judged number.
use Rattle.fields.specs.Places.{place_at}
use Rattle.plate.specs.Plate.{skip}
use Rattle.fields.proofs.numbers.read_skip.Goals as goal

pub returns : goal.returns
unfolding skip place_at
returns c = c.read_field.ensures
