use Rattle.transcript.specs.Machine.{machine_state}
use Rattle.transcript.specs.Perform.{holds}
use borrow.Author.Rules.{rules}
use Rattle.machine.proofs.compare.holds.Goals as goal

pub returns : goal.returns
unfolding holds machine_state
returns c = search rules
