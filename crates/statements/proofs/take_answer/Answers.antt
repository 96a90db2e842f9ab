-- `take_answer` meets its contract: the answer in the register, and taken.
use lib.ListN.{get_or}
use lib.IntN.{pos}
use mir.Syntax.{w32}
use mir.Facts.{to_z-of_z}
use borrow.Author.Rules.{rules}
use Rattle.statements.proofs.Answers.{lay-takes}
use Rattle.statements.proofs.take_answer.Goals as goal

pub returns : goal.returns
returns c =
    let a = c.args in
    let v = to_z-of_z {w = w32} {z = get_or a.answers.now a.m.taken (pos 0)} (record { sfits = c.registers-1.given }) in
    record { out_after = lay-takes _ _ _ _ _ _ _ (rw v (c.take_wrong.ensures.out_after _)) c.requires.1; steps_value = search rules }
