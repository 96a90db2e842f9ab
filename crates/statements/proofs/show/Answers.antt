-- `show` meets its contract: an S line and one step.
use native.Mathlib.Omega.{arith}
use borrow.Author.Rules.{rules}
use Rattle.transcript.specs.Statement.{print}
use Rattle.statements.proofs.Performs.{lay-perform}
use Rattle.statements.proofs.show.Goals as goal

pub returns : goal.returns
returns c = record { out_after = (λ rs answers. lay-perform _ _ _ (print _) _ _ _ _ _ c.put_shown-end.ensures (c.leave.ensures.out_value rs answers _) (omega arith)); steps_value = search rules }
