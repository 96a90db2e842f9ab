-- `transcript_space` meets its contract.
use mathlib.Core.Path.{refl}
use Rattle.tools.proofs.spaces.transcript_space.Goals as goal

pub returns : goal.returns
returns c = refl
