-- `put_if` meets its contract: the test's fields and the skip.
use mir.Syntax.{w32}
use mir.Facts.{to_z-of_z}
use borrow.Author.Rules.{rules}
use Rattle.writer.proofs.instructions.put_if.Goals as goal

pub returns : goal.returns
returns c =
    let back = to_z-of_z {w = w32} {z = c.args.test.constant} (search rules) in
    λ p. rw (c.op_code.ensures.value, back) at c.put_test.ensures
