-- `rule` meets its contract: a V line, one step, and a verdict.
use native.Mathlib.Omega.{arith}
use borrow.Author.Rules.{rules}
use Rattle.transcript.specs.Statement.{printex}
use Rattle.statements.proofs.Performs.{lay-perform}
use Rattle.statements.proofs.rule.Goals as goal

pub returns : goal.returns
returns c = record { out_after = (λ rs answers. lay-perform _ _ _ (printex _) _ _ _ _ _ c.put_ruled-end.ensures (c.leave.ensures.out_value rs answers _) (omega arith)); steps_value = search rules }
