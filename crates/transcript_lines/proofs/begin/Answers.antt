-- `begin` meets its contract: the comma is written where the letter ended.
use native.Mathlib.Omega.{arith}
use Rattle.output.proofs.Pour.{then}
use borrow.Author.Rules.{rules}
use Rattle.transcript_lines.proofs.begin.Goals as goal

pub returns : goal.returns
returns c = then _ _ _ _ _ _ _ c.put_byte-end.ensures c.put_byte.ensures (omega arith)
