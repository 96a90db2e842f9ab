-- `sum` meets its contract: one byte more.
use borrow.Author.Rules.{rules}
use native.Mathlib.Nat.{mod-lt}
use Rattle.vectors.specs.Sums.{sum_of}
use Rattle.vectors.proofs.Checksums.{sum_more}
use Rattle.vectors.proofs.buffer.sum.Goals as goal

pub loop-byte-init : goal.loop-byte-init
unfolding sum_of
loop-byte-init c = search rules

pub loop-byte-preserved : goal.loop-byte-preserved
loop-byte-preserved c =
    (rw c.loop-byte.invariant.0 (sum_more _ _ _ _ (search rules)), mod-lt _ c.requires.modulus_nonzero)
