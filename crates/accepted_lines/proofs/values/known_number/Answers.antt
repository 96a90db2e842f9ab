-- `known_number` meets its contract: the digits up to the place a + i have the value, and those behind it are still to be read.
use Prim.Native.Nat.{◌+◌}
use mathlib.Core.Path.{◌≡◌, refl, sym, ◌∙◌}
use native.Mathlib.Omega.{arith}
use Rattle.text.specs.Parts.{comma}
use Rattle.text.proofs.Places.{parts_none}
use Rattle.accepted_lines.proofs.KnownFields.{at-comma, at-end}
use Rattle.accepted_lines.proofs.KnownValues.{reading-below, reading-digit, reading-turn, reading-ends, there, byte-there}
use Rattle.accepted_lines.proofs.values.known_number.Goals as goal

pub loop-i-init : goal.loop-i-init
loop-i-init c =
    let z : c.args.a + 0 ≡ c.args.a = omega arith in
    rw z (record { whole = refl; digits = c.requires.0.0; rest = refl; most = c.requires.0.1 })

pub returns-then-b-eq44-clause-value_value : goal.returns-then-b-eq44-clause-value_value
returns-then-b-eq44-clause-value_value c =
    let (h, e) = byte-there c.args.s.now c.args.a c.loop-i.i c.loop-i-test.true in
    (reading-ends c.loop-i.invariant (at-comma _ _ h (sym e ∙ c.if-b-eq44.true))).0

pub returns-then-b-eq44-clause-s_value : goal.returns-then-b-eq44-clause-s_value
returns-then-b-eq44-clause-s_value c =
    let (h, e) = byte-there c.args.s.now c.args.a c.loop-i.i c.loop-i-test.true in
    (reading-ends c.loop-i.invariant (at-comma _ _ h (sym e ∙ c.if-b-eq44.true))).1

pub overflow_mul-value : goal.overflow_mul-value
overflow_mul-value c = let b = reading-below c.loop-i.invariant in omega arith

pub overflow_sub-b : goal.overflow_sub-b
overflow_sub-b c =
    let (h, e) = byte-there c.args.s.now c.args.a c.loop-i.i c.loop-i-test.true in
    rw e (reading-digit _ _ _ _ h (λ n. c.if-b-eq44.false (e ∙ n)) c.loop-i.invariant).0

pub overflow_add-value : goal.overflow_add-value
overflow_add-value c =
    let (h, e) = byte-there c.args.s.now c.args.a c.loop-i.i c.loop-i-test.true in
    let d = reading-digit _ _ _ _ h (λ n. c.if-b-eq44.false (e ∙ n)) c.loop-i.invariant in
    let b = reading-below c.loop-i.invariant in
    omega (arith, c.from.ensures)

pub loop-i-preserved : goal.loop-i-preserved
loop-i-preserved c =
    let (h, e) = byte-there c.args.s.now c.args.a c.loop-i.i c.loop-i-test.true in
    let z : c.args.a + (c.loop-i.i + 1) ≡ c.args.a + c.loop-i.i + 1 = omega arith in
    rw (c.from.ensures, e, z) (reading-turn _ _ _ _ h (λ n. c.if-b-eq44.false (e ∙ n)) c.loop-i.invariant)

pub returns-clause-value_value : goal.returns-clause-value_value
returns-clause-value_value c =
    let l = there c.args.s.now c.args.a in
    (reading-ends c.loop-i.invariant (at-end c.args.s.now _ (omega arith))).0

pub returns-clause-s_value : goal.returns-clause-s_value
returns-clause-s_value c =
    let l = there c.args.s.now c.args.a in
    parts_none comma c.args.s.now _ (omega arith) ∙ (reading-ends c.loop-i.invariant (at-end c.args.s.now _ (omega arith))).1
