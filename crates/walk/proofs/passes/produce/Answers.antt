-- `produce` meets its contract: it is the walk from the start, over all lines.
use native.Mathlib.Omega.{arith}
use Rattle.machine.proofs.Passes.{fresh-steps}
use Rattle.guide.proofs.Counting.{few-lines}
use Rattle.walk.proofs.Whole.{text-laid}
use borrow.Author.Rules.{rules}
use Rattle.walk.proofs.passes.produce.Goals as goal

pub block-w-requires : goal.block-w-requires
block-w-requires c = (search rules, omega (arith, fresh-steps _ c.fresh.ensures, few-lines c.args.guide.now), c.requires.1)

pub returns : goal.returns
returns c =
    (_, text-laid _ _ _ _ _ _ _ _ c.block-w.ensures.leaves_from (c.fresh.ensures _))
