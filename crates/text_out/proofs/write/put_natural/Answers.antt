-- `put_natural` meets its contract: one digit, or the digits behind the place k are found, from the last one on.
use borrow.Author.Rules.{rules}
use Rattle.text_out.proofs.Digits.{behind_more, behind-none, one-digit}
use Rattle.text_out.proofs.write.put_natural.Goals as goal

pub returns-then-v-lt10 : goal.returns-then-v-lt10
returns-then-v-lt10 c = rw (one-digit _ c.if-v-lt10.true) c.put_byte.ensures

pub loop-left-preserved : goal.loop-left-preserved
loop-left-preserved c = (behind_more _ _ _ _ c.loop-left.invariant.0 c.loop-left.invariant.1 c.loop-left-test.true, search rules)

pub returns : goal.returns
returns c = rw (behind-none _ _ _ _ c.loop-left.invariant.0 c.loop-left.invariant.1 c.loop-left-test.false) at c.put.ensures
