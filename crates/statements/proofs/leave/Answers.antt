-- `leave` meets its contract: one step, and nothing written.
use native.Mathlib.Omega.{arith}
use borrow.Author.Rules.{rules}
use Rattle.statements.proofs.Answers.{lay_step}
use Rattle.statements.proofs.leave.Goals as goal

pub returns : goal.returns
returns c = record { out_value = (λ rs answers out. lay_step _ _ _ _ _ _ _ (c.stepped-n.ensures.result_value rs answers) (omega arith)); taken_value = search rules }
