-- `write` meets its contract: straight into a buffer that is long enough; else 11 where it is too short, or the whole transcript.
use native.Mathlib.Omega.{arith}
use Rattle.machine.proofs.Passes.{too_short}
use Rattle.run.proofs.Short.{straight-once, straight, second}
use borrow.Author.Tests.{eqb-true}
use mathlib.Core.Path.{sym, ◌∙◌}
use Rattle.run.proofs.passes.write.Goals as goal

pub returns-then-room-transcript : goal.returns-then-room-transcript
returns-then-room-transcript c =
    rw c.report_of.ensures
    (straight-once _ _ _ c.requires _ c.see_answers.ensures _ _ _ _ c.produce.ensures.1 (eqb-true _ _ (sym c.is_empty.ensures ∙ c.if-is_empty.true)) c.if-room-transcript.true
    (omega (arith, c.well_formed)))

pub returns-then-room-answers : goal.returns-then-room-answers
returns-then-room-answers c =
    rw c.report_of-then-room-answers.ensures
    (straight _ _ _ c.requires _ c.see_answers.ensures _ _ _ _ c.produce-then-room-answers.ensures.1 c.if-room-le16777216.true c.if-room-answers.true
    (omega (arith, c.well_formed)))

pub returns-then-transcript-length : goal.returns-then-transcript-length
returns-then-transcript-length c = too_short _ _ _ _ _ _ c.produce-length.ensures.1 _ c.if-transcript-length.true

pub returns : goal.returns
returns c =
    rw c.report_of-2.ensures
    (second _ _ _ _ _ _ _ _ _ _ c.produce-length.ensures.1 c.produce-2.ensures.1 c.if-transcript-length.false (omega (arith, c.well_formed)))
