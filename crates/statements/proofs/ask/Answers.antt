-- `ask` meets its contract: the Q line first, then the answer.
use native.Mathlib.Omega.{arith}
use borrow.Author.Rules.{rules}
use Rattle.transcript.specs.Statement.{input}
use Rattle.statements.proofs.Performs.{lay-perform}
use Rattle.statements.proofs.ask.Goals as goal

pub returns : goal.returns
returns c = record { out_after = lay-perform _ _ _ (input _ _) _ _ _ _ _ c.put_asked-end.ensures c.answer.ensures.out_after (omega arith); steps_value = search rules }
