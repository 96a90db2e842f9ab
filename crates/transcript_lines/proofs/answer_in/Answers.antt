-- `answer_in` meets its contract: three writings, each where the one before ended, are the A line.
use native.Mathlib.Omega.{arith}
use mir.Facts.{to_z-of_z}
use Rattle.output.proofs.Pour.{then}
use Rattle.text.specs.Parts.{join}
use Rattle.transcript.specs.State.{line_bytes}
use borrow.Author.Rules.{rules}
use Rattle.transcript_lines.proofs.answer_in.Goals as goal

pub returns : goal.returns
unfolding line_bytes join
returns c =
    let n = rw (to_z-of_z c.ranges.v) at c.put_number-at.ensures in
    then _ _ _ _ _ _ _ (then _ _ _ _ _ _ _ c.begin-at.ensures n (omega arith)) c.end.ensures (omega arith)
