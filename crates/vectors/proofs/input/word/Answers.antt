-- `word` meets its contract: the four bytes, each at its place.
use Rattle.vectors.specs.Input.{number_at}
use Rattle.vectors.proofs.input.word.Goals as goal

pub returns : goal.returns
unfolding number_at
returns c = cc
