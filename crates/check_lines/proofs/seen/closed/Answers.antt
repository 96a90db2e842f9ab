-- `closed` meets its contract: the innermost if is open no more.
use native.Mathlib.Omega.{arith}
use Rattle.check_lines.proofs.OpenIfs.{innermost}
use Rattle.check_lines.proofs.seen.closed.Goals as goal

pub returns : goal.returns
returns c =
    let s = c.args.s in
    λ n os h. record {
      holds = λ own e. record { own = e; rest = simp (innermost os s.depth (λ z. omega arith)) };
      sound = record { depth = omega (arith, h.depth); size = h.size };
    }
