-- `behind_register` meets its contract: a comma behind the first digit tells one digit from two.
use borrow.Author.Rules.{rules}
use Rattle.accepted_lines.proofs.KnownValues.{known-register, field-behind}
use Rattle.accepted_lines.proofs.values.behind_register.Goals as goal

pub overflow_add-a : goal.overflow_add-a
overflow_add-a c =
    let x = c in
    let k = known-register x.args.s.now x.args.a x.requires.0.0 x.requires.0.1 x.requires.1 in
    search rules

pub bounds-s-a : goal.bounds-s-a
bounds-s-a c =
    let k = known-register c.args.s.now c.args.a c.requires.0.0 c.requires.0.1 c.requires.1 in
    search rules

pub overflow_add-result : goal.overflow_add-result
overflow_add-result c =
    let k = known-register c.args.s.now c.args.a c.requires.0.0 c.requires.0.1 c.requires.1 in
    search rules

pub returns-then-s-a-eq44 : goal.returns-then-s-a-eq44
returns-then-s-a-eq44 c =
    let k = known-register c.args.s.now c.args.a c.requires.0.0 c.requires.0.1 c.requires.1 in
    let n = (k.single c.if-s-a-eq44.true).1 in
    (n, field-behind _ _ _ c.requires.1 n)

pub overflow_add-result-else-s-a-eq44 : goal.overflow_add-result-else-s-a-eq44
overflow_add-result-else-s-a-eq44 c =
    let k = known-register c.args.s.now c.args.a c.requires.0.0 c.requires.0.1 c.requires.1 in
    search rules

pub returns-else-s-a-eq44 : goal.returns-else-s-a-eq44
returns-else-s-a-eq44 c =
    let k = known-register c.args.s.now c.args.a c.requires.0.0 c.requires.0.1 c.requires.1 in
    let n = (k.double c.if-s-a-eq44.false).2 in
    (n, field-behind _ _ _ c.requires.1 n)
