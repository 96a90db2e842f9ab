-- `turned` meets its contract: one more instruction, and the innermost if has had its `else`.
use native.Mathlib.Numerals.{add-one}
use native.Mathlib.Omega.{arith}
use lib.ListN.{length-set}
use Rattle.check_lines.proofs.OpenIfs.{innermost, innermost-turned}
use Rattle.check_lines.proofs.seen.turned.Goals as goal

pub returns : goal.returns
returns c = let s = c.args.s in
    let os = c.args.opens.now in
    let i = innermost os s.depth (λ z. omega arith) in
    λ n. record {
      holds = λ own e. record { own = e; rest = simp (innermost-turned os c.requires.2.size s.depth c.requires.1 c.requires.2.depth, i, add-one) };
      sound = record { depth = c.requires.2.depth; size = simp length-set c.requires.2.size };
    }
