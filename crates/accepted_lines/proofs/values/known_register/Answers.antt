-- `known_register` meets its contract: a comma behind the first digit tells one digit from two.
use mathlib.Core.Path.{sym, ap, ◌∙◌}
use Rattle.std.specs.Prelude.{Some}
use native.Mathlib.Omega.{arith}
use borrow.Author.Rules.{rules}
use Rattle.accepted_lines.proofs.KnownValues.{known-register}
use Rattle.accepted_lines.proofs.values.known_register.Goals as goal

pub bounds-s-a : goal.bounds-s-a
bounds-s-a c =
    let k = known-register c.args.s.now c.args.a c.requires.0.0 c.requires.0.1 c.requires.1 in
    omega (arith, k.there)

pub overflow_sub-s : goal.overflow_sub-s
overflow_sub-s c = (known-register c.args.s.now c.args.a c.requires.0.0 c.requires.0.1 c.requires.1).low

pub overflow_add-a : goal.overflow_add-a
overflow_add-a c =
    let k = known-register c.args.s.now c.args.a c.requires.0.0 c.requires.0.1 c.requires.1 in
    search rules

pub bounds-s-a-2 : goal.bounds-s-a-2
bounds-s-a-2 c = (known-register c.args.s.now c.args.a c.requires.0.0 c.requires.0.1 c.requires.1).there

pub overflow_sub-b : goal.overflow_sub-b
overflow_sub-b c =
    let k = known-register c.args.s.now c.args.a c.requires.0.0 c.requires.0.1 c.requires.1 in
    (k.double (λ e. omega arith)).0

pub overflow_add-result-in_default-2 : goal.overflow_add-result-in_default-2
overflow_add-result-in_default-2 c =
    let k = known-register c.args.s.now c.args.a c.requires.0.0 c.requires.0.1 c.requires.1 in
    search rules

pub returns-in-44-clause-s_value : goal.returns-in-44-clause-s_value
returns-in-44-clause-s_value c =
    let k = known-register c.args.s.now c.args.a c.requires.0.0 c.requires.0.1 c.requires.1 in
    c.requires.0.1 ∙ ap Some ((k.single c.in-44.is).0 ∙ sym c.from-first.ensures)

pub returns-in-44-clause-s_value_2 : goal.returns-in-44-clause-s_value_2
returns-in-44-clause-s_value_2 c =
    let k = known-register c.args.s.now c.args.a c.requires.0.0 c.requires.0.1 c.requires.1 in
    (k.single c.in-44.is).1

pub returns-in_default-clause-s_value : goal.returns-in_default-clause-s_value
returns-in_default-clause-s_value c =
    let k = known-register c.args.s.now c.args.a c.requires.0.0 c.requires.0.1 c.requires.1 in
    let v = (k.double (λ e. omega arith)).1 in
    c.requires.0.1 ∙ ap Some (omega (arith, v, c.from-first.ensures, c.from.ensures))

pub returns-in_default-clause-s_value_2 : goal.returns-in_default-clause-s_value_2
returns-in_default-clause-s_value_2 c =
    let k = known-register c.args.s.now c.args.a c.requires.0.0 c.requires.0.1 c.requires.1 in
    (k.double (λ e. omega arith)).2
