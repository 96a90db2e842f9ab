-- `put_numbered` meets its contract: the words, the number and a colon are written one behind the other.
use native.Mathlib.Omega.{arith}
use Rattle.output.proofs.Pour.{then}
use Rattle.refusal_words.proofs.put_numbered.Goals as goal

pub returns : goal.returns
returns c = then _ _ _ _ _ _ _ (then _ _ _ _ _ _ _ c.put-end.ensures c.put_natural-end.ensures (omega arith)) c.put.ensures (omega arith)
