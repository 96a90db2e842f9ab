-- `put_test` meets its contract: the fields of an if, with a constant of 16 bits or of 32, are one number.
use mathlib.Core.Path.{◌≡◌, sym, ◌∙◌}
use mathlib.Core.Bool.{true, false}
use mir.Facts.{to_z-of_z}
use Rattle.plate.specs.Writing.{is_short, constant_bits}
use Rattle.writer.proofs.Complements.{short-bits}
use Rattle.writer.proofs.Codes.{if-short, if-long}
use borrow.Author.Rules.{rules}
use Rattle.writer.proofs.instructions.put_test.Goals as goal

pub returns : goal.returns
unfolding constant_bits
returns c =
    let f = to_z-of_z c.ranges.constant in
    let test : is_short c.args.constant ≡ false = rw f at (sym c.is_short.ensures ∙ c.if-is_short.false) in
    let a = c.args in
    let number = rw (if-long a.register a.op c.to_bits-low.result a.skip c.requires (search rules)) at c.put_bits-2.ensures in
    rw test (rw (c.to_bits-low.ensures, f) at number)

pub returns-then-is_short : goal.returns-then-is_short
unfolding constant_bits
returns-then-is_short c =
    let f = to_z-of_z c.ranges.constant in
    let test : is_short c.args.constant ≡ true = rw f at (sym c.is_short.ensures ∙ c.if-is_short.true) in
    let a = c.args in
    let number = rw (if-short a.register a.op c.to_bits-low.result a.skip c.requires) at c.put_bits.ensures in
    rw test (rw (c.to_bits-low.ensures, f, short-bits _ test) at number)
