-- `opened` meets its contract: one more instruction, and one more open if.
use native.Mathlib.Numerals.{add-one}
use native.Mathlib.Omega.{arith}
use lib.ListN.{length-set}
use Rattle.check_lines.proofs.OpenIfs.{one-more-open}
use Rattle.check_lines.proofs.seen.opened.Goals as goal

pub returns : goal.returns
returns c = let s = c.args.s in
    λ x. record {
      holds = λ own e. record { own = e; rest = simp (add-one, one-more-open c.args.opens.now c.requires.2.size s.depth c.args.n c.requires.1) };
      sound = record { depth = omega arith; size = simp length-set c.requires.2.size };
    }
