-- `go_on` meets its contract: nothing is written.
use borrow.Author.Rules.{rules}
use native.Mathlib.Omega.{arith}
use Rattle.causes.specs.declared.Outcome.TheVariants.{End}
use Rattle.machine.proofs.Lay.{lay-here}
use Rattle.run_steps.proofs.go_on.Goals as goal

pub returns : goal.returns
returns c = record { out_value = (λ rs answers out. lay-here rs answers _ End _ out (omega arith)); over_value = search rules }
