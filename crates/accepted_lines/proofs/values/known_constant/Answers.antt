-- `known_constant` meets its contract: the sign is read, then the digits.
use Prim.Native.Nat.{◌-◌}
use native.Mathlib.Omega.{arith}
use mathlib.Core.Path.{sym, ap, ◌∙◌}
use Rattle.std.specs.Prelude.{Some}
use lib.IntN.{pos, negsuc}
use mir.Syntax.{w32}
use mir.Facts.{to_z_pos}
use Rattle.decimals.proofs.Signs.{minus-bits}
use Rattle.accepted_lines.proofs.KnownConstants.{constant-there, known-below, known-plain}
use borrow.Author.Rules.{rules}
use Rattle.accepted_lines.proofs.values.known_constant.Goals as goal

pub bounds-s-a : goal.bounds-s-a
bounds-s-a c =
    let t = constant-there c.args.s.now c.args.a c.requires.0 c.requires.1 in
    search rules

pub overflow_add-a : goal.overflow_add-a
overflow_add-a c =
    let t = constant-there c.args.s.now c.args.a c.requires.0 c.requires.1 in
    search rules

pub known_number-n-requires : goal.known_number-n-requires
known_number-n-requires c =
    let k = known-below c.args.s.now c.args.a c.requires.0 c.requires.1 c.if-s-a-eq45.true in
    (k.number.digits, k.number.there)

pub overflow_sub-result : goal.overflow_sub-result
overflow_sub-result c =
    let k = known-below c.args.s.now c.args.a c.requires.0 c.requires.1 c.if-s-a-eq45.true in
    omega (arith, k.above, c.known_number-n.ensures.value_value)

pub overflow_cast-result : goal.overflow_cast-result
overflow_cast-result c =
    let k = known-below c.args.s.now c.args.a c.requires.0 c.requires.1 c.if-s-a-eq45.true in
    record { sfits = omega (arith, k.number.digits.1, c.known_number-n.ensures.value_value) }

pub returns-then-s-a-eq45 : goal.returns-then-s-a-eq45
returns-then-s-a-eq45 c =
    let k = known-below c.args.s.now c.args.a c.requires.0 c.requires.1 c.if-s-a-eq45.true in
    record { s_value = simp (minus-bits (c.known_number-n.result.value - 1) (omega (arith, k.number.digits.1, c.known_number-n.ensures.value_value))) (c.requires.1 ∙ ap Some (k.value ∙ ap (λ n. negsuc (n - 1)) (sym c.known_number-n.ensures.value_value))); s_value_2 = c.known_number-n.ensures.s_value ∙ k.rest }

pub known_number-n-requires-2 : goal.known_number-n-requires-2
known_number-n-requires-2 c =
    let k = known-plain c.args.s.now c.args.a c.requires.0 c.requires.1 c.if-s-a-eq45.false in
    (k.number.digits, k.number.there)

pub overflow_cast-result-2 : goal.overflow_cast-result-2
overflow_cast-result-2 c =
    let k = known-plain c.args.s.now c.args.a c.requires.0 c.requires.1 c.if-s-a-eq45.false in
    record { sfits = omega (arith, k.most, c.known_number-n-2.ensures.value_value) }

pub returns : goal.returns
returns c =
    let k = known-plain c.args.s.now c.args.a c.requires.0 c.requires.1 c.if-s-a-eq45.false in
    record { s_value = simp (to_z_pos w32 {n = c.known_number-n-2.result.value} (omega (arith, k.most, c.known_number-n-2.ensures.value_value))) (c.requires.1 ∙ ap Some (k.value ∙ ap pos (sym c.known_number-n-2.ensures.value_value))); s_value_2 = c.known_number-n-2.ensures.s_value }
