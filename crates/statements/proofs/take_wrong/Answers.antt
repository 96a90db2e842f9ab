-- `take_wrong` meets its contract: one step and an A line.
use lib.ListN.{get_or}
use lib.IntN.{pos}
use mir.Syntax.{w32}
use mir.Facts.{to_z-of_z}
use Rattle.statements.proofs.Answers.{lay-takes-wrong}
use borrow.Author.Rules.{rules}
use Rattle.statements.proofs.take_wrong.Goals as goal

pub returns : goal.returns
returns c =
    let a = c.args in
    let v = to_z-of_z {w = w32} {z = get_or a.answers.now a.m.taken (pos 0)} (record { sfits = c.put_answered-arg-2-1.given }) in
    record { out_after = (λ rs. lay-takes-wrong _ _ _ _ _ _ _ (rw v at c.put_answered-end.ensures)); steps_value = search rules }
