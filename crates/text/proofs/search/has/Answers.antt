-- `has` meets its contract: the flag says whether the first x stands before the place i.
use Prim.Native.Nat.{◌+◌, ◌<◌}
use mathlib.Core.Path.{sym, ◌∙◌}
use lib.ListN.{length}
use borrow.Author.Rules.{rules}
use Rattle.text.proofs.Searches.{among-here, among_later}
use Rattle.text.proofs.search.has.Goals as goal
use Rattle.text.proofs.search.has.Goals.{then-s-a, else-s-a}

pub loop-i-preserved : goal.loop-i-preserved
loop-i-preserved c =
    let h : c.args.a + c.loop-i.i < length c.args.s.now = search rules in
    elim c.if-s-a.branch [
      | then-s-a w ↦ rw w.hit-is (sym (among-here _ _ _ _ h w.if-s-a.true))
      | else-s-a w ↦ rw w.hit-is (c.loop-i.invariant ∙ among_later _ _ _ _ h w.if-s-a.false)
    ]
