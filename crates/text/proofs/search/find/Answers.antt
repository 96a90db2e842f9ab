-- `find` meets its contract: the place is among the first 16 bytes, or the search goes on behind them.
use Rattle.std.proofs.Common.{◌+◌, ◌∙◌, arith}
use Rattle.text.proofs.Searches.{until-near, until-far}
use Rattle.text.proofs.search.find.Goals as goal

pub returns-then-at-near-clause-value : goal.returns-then-at-near-clause-value
returns-then-at-near-clause-value c =
    let f = c.find_near-at.ensures.value in
    let e = c.args.a + 16 in
    f ∙ until-near c.args.x c.args.s.now c.args.a e (omega arith) (omega (arith, f, c.if-at-near.true))

pub returns-else-at-near-clause-value : goal.returns-else-at-near-clause-value
returns-else-at-near-clause-value c =
    let f = c.find_near-at.ensures.value in
    let e = c.args.a + 16 in
    c.find_far.ensures.value ∙ until-far c.args.x c.args.s.now c.args.a e (omega arith) (omega (arith, f, c.if-at-near.false))
