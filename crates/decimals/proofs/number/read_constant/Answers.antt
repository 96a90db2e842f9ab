-- `read_constant` meets its contract: the sign is read, then a number up to the sign's limit.
use Rattle.std.proofs.Common.{◌≤◌, ◌-◌, sym, arith}
use mir.Syntax.{w32}
use mir.Facts.{to_z_pos}
use Rattle.decimals.proofs.Decimals.{natural-written}
use Rattle.decimals.proofs.Signs.{constant-none, constant-plain, constant-minus, negative-some, minus-bits}
use Rattle.decimals.proofs.number.read_constant.Goals as goal
use Rattle.decimals.proofs.number.read_constant.Goals.{In_default-2}

pub returns-in_err-n-in-45 : goal.returns-in_err-n-in-45
returns-in_err-n-in-45 c =
    rw c.from_residual.ensures (simp (constant-minus c.args.s.now (λ e. omega arith) (omega arith), sym c.in_err-n-in-45.ensures))

pub returns-in-0 : goal.returns-in-0
returns-in-0 c =
    let z = c.in-0.is in
    simp (constant-minus c.args.s.now (λ e. omega arith) (omega arith), sym c.in_ok-n-in-45.ensures, z)

pub overflow_cast-result : goal.overflow_cast-result
overflow_cast-result c = record { sfits = omega (arith, (natural-written _ _ _ (sym c.in_ok-n-in-45.ensures)).1) }

pub returns-in_default-2 : goal.returns-in_default-2
returns-in_default-2 c =
    let l : c.in_ok-n-in-45.n ≤ 2147483648 = (natural-written _ _ _ (sym c.in_ok-n-in-45.ensures)).1 in
    simp (
      constant-minus c.args.s.now (λ e. omega arith) (omega arith),
      sym c.in_ok-n-in-45.ensures,
      negative-some c.in_ok-n-in-45.n (λ e. omega arith),
      minus-bits (c.in_ok-n-in-45.n - 1) (omega arith),
    )

pub returns-in-empty : goal.returns-in-empty
returns-in-empty c = simp (constant-none c.args.s.now (omega arith))

pub returns-in_err-read_natural-in_default : goal.returns-in_err-read_natural-in_default
returns-in_err-read_natural-in_default c =
    rw c.from_residual-in_err-read_natural-in_default.ensures
    (simp (constant-plain c.args.s.now (λ e. omega arith) (λ e. omega arith), sym c.in_err-read_natural-in_default.ensures))

pub overflow_cast-result-in_default : goal.overflow_cast-result-in_default
overflow_cast-result-in_default c =
    record { sfits = omega (arith, (natural-written _ _ _ (sym c.in_ok-read_natural-in_default.ensures)).1) }

pub returns-in_ok-read_natural-in_default : goal.returns-in_ok-read_natural-in_default
returns-in_ok-read_natural-in_default c =
    let l = (natural-written _ _ _ (sym c.in_ok-read_natural-in_default.ensures)).1 in
    simp (
      constant-plain c.args.s.now (λ e. omega arith) (λ e. omega arith),
      sym c.in_ok-read_natural-in_default.ensures,
      to_z_pos w32 {n = c.in_ok-read_natural-in_default.field-0} (omega arith),
    )
