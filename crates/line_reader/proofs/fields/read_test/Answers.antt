-- `read_test` meets its contract: three fields, each of which begins behind the end of the one before it.
use Prim.Native.Nat.{◌+◌, ◌-◌, ◌≤◌}
use native.Mathlib.Omega.{arith}
use mathlib.Core.Path.{sym}
use borrow.Author.Rules.{rules}
use lib.ListN.{length, take, drop}
use Rattle.line_reader.proofs.TestFields.{no_register, one_field, no-operator, two_fields, no-constant, three, test-some}
use Rattle.line_reader.proofs.fields.read_test.Goals as goal

pub returns-in_err-register : goal.returns-in_err-register
returns-in_err-register c =
    rw c.from_residual.ensures
    (no_register c.args.s.now c.args.a c.find-e.result c.requires c.find-e.ensures.value (sym c.in_err-register.ensures))

pub returns-then-e-s : goal.returns-then-e-s
returns-then-e-s c =
    one_field c.args.s.now c.args.a c.find-e.result c.requires c.find-e.ensures.value (sym c.in_ok-register.ensures) c.if-e-s.true

pub returns-in_err-op : goal.returns-in_err-op
returns-in_err-op c =
    let s = c.args.s.now in
    let h : c.find-e.result + 1 ≤ length s = omega (arith, c.if-e-s.false, c.find-e.ensures.upper_bound) in
    rw c.from_residual-in_err-op.ensures
    (no-operator s c.args.a c.find-e.result c.requires c.find-e.ensures.value c.find-f.result h c.find-f.ensures.value
    (sym c.in_ok-register.ensures) (sym c.in_err-op.ensures))

pub returns-then-f-s : goal.returns-then-f-s
returns-then-f-s c =
    let s = c.args.s.now in
    let h : c.find-e.result + 1 ≤ length s = omega (arith, c.if-e-s.false, c.find-e.ensures.upper_bound) in
    two_fields s c.args.a c.find-e.result c.requires c.find-e.ensures.value c.find-f.result h c.find-f.ensures.value
    (sym c.in_ok-register.ensures) (sym c.in_ok-op.ensures) c.if-f-s.true

pub returns-in_err-constant : goal.returns-in_err-constant
returns-in_err-constant c =
    let s = c.args.s.now in
    let h : c.find-e.result + 1 ≤ length s = omega (arith, c.if-e-s.false, c.find-e.ensures.upper_bound) in
    let h2 : c.find-f.result + 1 ≤ length s = omega (arith, c.if-f-s.false, c.find-f.ensures.upper_bound) in
    rw c.from_residual-in_err-constant.ensures
    (no-constant s c.args.a c.find-e.result c.requires c.find-e.ensures.value c.find-f.result h c.find-f.ensures.value
    c.find-end.result h2 c.find-end.ensures.value (sym c.in_ok-register.ensures) (sym c.in_ok-op.ensures) (sym c.in_err-constant.ensures))

pub returns : goal.returns
returns c =
    let s = c.args.s.now in
    let h : c.find-e.result + 1 ≤ length s = omega (arith, c.if-e-s.false, c.find-e.ensures.upper_bound) in
    let h2 : c.find-f.result + 1 ≤ length s = omega (arith, c.if-f-s.false, c.find-f.ensures.upper_bound) in
    let p = take (c.find-e.result - c.args.a) (drop c.args.a s) in
    let q = take (c.find-f.result - (c.find-e.result + 1)) (drop (c.find-e.result + 1) s) in
    let w = take (c.find-end.result - (c.find-f.result + 1)) (drop (c.find-f.result + 1) s) in (
      p,
      q,
      w,
      three s c.args.a c.find-e.result c.requires c.find-e.ensures.value c.find-f.result h c.find-f.ensures.value
          c.find-end.result h2 c.find-end.ensures.value,
      simp (test-some p q w (sym c.in_ok-register.ensures) (sym c.in_ok-op.ensures) (sym c.in_ok-constant.ensures)) (search rules),
      c.find-end.ensures.upper_bound,
    )
