-- `put_if` meets its contract: the word, four fields and LF are the line.
use mir.Facts.{to_z-of_z}
use mir.Syntax.{w32}
use native.Mathlib.Omega.{arith}
use Rattle.output.proofs.Pour.{then}
use Rattle.listing_lines.proofs.LineBytes.{four-fields}
use borrow.Author.Rules.{rules}
use Rattle.listing_lines.proofs.put_if.Goals as goal

pub returns : goal.returns
returns c = let back = to_z-of_z {w = w32} {z = c.args.test.constant} (record { sfits = search rules }) in
    rw (← four-fields _ _ _ _ _) (then _ _ _ _ _ _ _ (then _ _ _ _ _ _ _ (then _ _ _ _ _ _ _ (then _ _ _ _ _ _ _ (then _ _ _ _ _ _ _ c.put-end.ensures c.put_natural-end.ensures (omega arith)) c.put_operator-end.ensures (omega arith)) (rw back at c.put_constant-end.ensures) (omega arith)) c.put_natural-end-2.ensures (omega arith)) c.put_byte.ensures (omega arith))
