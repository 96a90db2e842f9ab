-- `text_in` meets its contract: three writings, each where the one before ended, are one.
use native.Mathlib.Omega.{arith}
use Rattle.output.proofs.Pour.{then}
use borrow.Author.Rules.{rules}
use Rattle.transcript_lines.proofs.text_in.Goals as goal

pub returns : goal.returns
returns c = then _ _ _ _ _ _ _ (then _ _ _ _ _ _ _ c.begin-at.ensures c.put-at.ensures (omega arith)) c.end.ensures (omega arith)
