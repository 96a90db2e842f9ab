-- `answer` meets its contract: the answer is taken, or none is left.
use borrow.Author.Rules.{rules}
use Rattle.statements.proofs.Answers.{lay-unanswered}
use Rattle.statements.proofs.answer.Goals as goal

pub returns-then-m-answers : goal.returns-then-m-answers
returns-then-m-answers c = record { out_after = c.take_answer.ensures.out_after; steps_value = search rules }

pub returns : goal.returns
returns c = record { out_after = lay-unanswered _ _ _ _ _ _ _ (c.leave.ensures.out_value _ _ _) c.if-m-answers.false; steps_value = search rules }
