-- `put_pairs` meets its contract: the pairs of the bytes passed are written.
use Rattle.std.proofs.Common.{ℕ, arith, add-one}
use lib.Seq.{take-suc, take_all}
use Rattle.output.proofs.Pour.{none, then, kept}
use Rattle.printed.specs.Pairs.{pairs}
use Rattle.printed.proofs.PairsWritten.{pairs-one-more}
use Rattle.printed.proofs.pairs.put_pairs.Goals as goal

pub loop-b-init : goal.loop-b-init
unfolding pairs
loop-b-init c = none _ _ (omega arith)

pub loop-b-preserved : goal.loop-b-preserved
loop-b-preserved c =
    let e = then _ _ _ _ _ _ _ c.loop-b.invariant c.put_pair-end.ensures (omega arith) in
    rw (add-one, take-suc {A = ℕ} _ _ 0 c.loop-b-test.true, pairs-one-more) e

pub shape_of-out : goal.shape_of-out
shape_of-out c = kept _ _ _ _ _ c.loop-b.invariant

pub returns : goal.returns
returns c = rw (take_all _ _ c.loop-b-test.false) at c.loop-b.invariant
