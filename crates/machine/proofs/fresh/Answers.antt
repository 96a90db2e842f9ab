-- `fresh` meets its contract: a machine at the start.
use mathlib.Core.Path.{refl}
use Rattle.transcript.specs.Machine.{machine_state}
use Rattle.transcript.specs.State.{start}
use Rattle.machine.proofs.fresh.Goals as goal

pub returns : goal.returns
unfolding start machine_state
returns c = λ answers. refl
