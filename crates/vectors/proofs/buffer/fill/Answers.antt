-- `fill` meets its contract: one byte more.
use borrow.Author.Rules.{rules}
use Rattle.vectors.specs.Lent.{content}
use Rattle.vectors.proofs.Content.{content-more}
use Rattle.vectors.proofs.buffer.fill.Goals as goal

pub loop-i-init : goal.loop-i-init
unfolding content
loop-i-init c = search rules

pub loop-i-preserved : goal.loop-i-preserved
loop-i-preserved c = content-more _ _ (search rules) c.loop-i.invariant
