-- `known_operator` meets its contract: the first letter tells it, and the second where two words begin alike.
use mathlib.Core.Path.{sym, ap, ◌∙◌}
use Rattle.std.specs.Prelude.{Some}
use native.Mathlib.Omega.{arith}
use borrow.Author.Rules.{rules}
use borrow.Author.Tests.{eq-eqb, ne_eqb}
use Rattle.accepted_lines.proofs.KnownValues.{known-operator, op-first, op-both, op-last}
use Rattle.accepted_lines.proofs.values.known_operator.Goals as goal

pub bounds-s-a : goal.bounds-s-a
bounds-s-a c =
    let k = known-operator c.args.s.now c.args.a c.requires.0.0 c.requires.0.1 c.requires.1 in
    search rules

pub overflow_add-a : goal.overflow_add-a
overflow_add-a c =
    let k = known-operator c.args.s.now c.args.a c.requires.0.0 c.requires.0.1 c.requires.1 in
    search rules

pub bounds-s-a-in-108 : goal.bounds-s-a-in-108
bounds-s-a-in-108 c =
    let k = known-operator c.args.s.now c.args.a c.requires.0.0 c.requires.0.1 c.requires.1 in
    search rules

pub overflow_add-a-in_default : goal.overflow_add-a-in_default
overflow_add-a-in_default c =
    let k = known-operator c.args.s.now c.args.a c.requires.0.0 c.requires.0.1 c.requires.1 in
    search rules

pub bounds-s-a-in_default : goal.bounds-s-a-in_default
bounds-s-a-in_default c =
    let k = known-operator c.args.s.now c.args.a c.requires.0.0 c.requires.0.1 c.requires.1 in
    search rules

pub returns-in-101 : goal.returns-in-101
returns-in-101 c =
    let k = known-operator c.args.s.now c.args.a c.requires.0.0 c.requires.0.1 c.requires.1 in
    record { s_value = c.requires.0.1 ∙ ap Some (sym (op-first k 101 c.in-101.is)); a_in_bounds = (omega arith, k.next) }

pub returns-in-110 : goal.returns-in-110
returns-in-110 c =
    let k = known-operator c.args.s.now c.args.a c.requires.0.0 c.requires.0.1 c.requires.1 in
    record { s_value = c.requires.0.1 ∙ ap Some (sym (op-first k 110 c.in-110.is)); a_in_bounds = (omega arith, k.next) }

pub returns-then-s-a-eq116 : goal.returns-then-s-a-eq116
returns-then-s-a-eq116 c =
    let k = known-operator c.args.s.now c.args.a c.requires.0.0 c.requires.0.1 c.requires.1 in
    record { s_value = c.requires.0.1 ∙ ap Some (sym (op-both k 108 c.in-108.is (eq-eqb _ _ c.if-s-a-eq116.true))); a_in_bounds = (omega arith, k.next) }

pub returns-else-s-a-eq116 : goal.returns-else-s-a-eq116
returns-else-s-a-eq116 c =
    let k = known-operator c.args.s.now c.args.a c.requires.0.0 c.requires.0.1 c.requires.1 in
    record { s_value = c.requires.0.1 ∙ ap Some (sym (op-both k 108 c.in-108.is (ne_eqb _ _ c.if-s-a-eq116.false))); a_in_bounds = (omega arith, k.next) }

pub returns-then-s-a-eq116-2 : goal.returns-then-s-a-eq116-2
returns-then-s-a-eq116-2 c =
    let k = known-operator c.args.s.now c.args.a c.requires.0.0 c.requires.0.1 c.requires.1 in
    record {
      s_value = c.requires.0.1 ∙ ap Some (sym (op-last k (λ e. omega arith) (λ e. omega arith) (λ e. omega arith) (eq-eqb _ _ c.if-s-a-eq116-2.true)));
      a_in_bounds = (omega arith, k.next);
    }

pub returns-else-s-a-eq116-2 : goal.returns-else-s-a-eq116-2
returns-else-s-a-eq116-2 c =
    let k = known-operator c.args.s.now c.args.a c.requires.0.0 c.requires.0.1 c.requires.1 in
    record {
      s_value = c.requires.0.1 ∙ ap Some (sym (op-last k (λ e. omega arith) (λ e. omega arith) (λ e. omega arith) (ne_eqb _ _ c.if-s-a-eq116-2.false)));
      a_in_bounds = (omega arith, k.next);
    }
