use Rattle.transcript.specs.Machine.{machine_state}
use borrow.Author.Rules.{rules}
use Rattle.machine.proofs.stepped.Goals as goal

pub returns-clause-result_value : goal.returns-clause-result_value
unfolding machine_state
returns-clause-result_value c = search rules
