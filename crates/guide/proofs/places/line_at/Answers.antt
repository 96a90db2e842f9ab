-- `line_at` meets its contract: the line ends at its LF, behind the last of which no bytes stand.
use native.Mathlib.Omega.{arith}
use Rattle.lines.proofs.CleanTexts.{clean_line}
use Rattle.guide.proofs.Reading.{no_line, reads-line}
use Rattle.guide.proofs.places.line_at.Goals as goal

pub returns-then-end-guide : goal.returns-then-end-guide
returns-then-end-guide c = no_line _ _ _ c.find-end.ensures.value c.requires.1 c.if-end-guide.true

pub accepted_line-head-requires : goal.accepted_line-head-requires
accepted_line-head-requires c = clean_line _ _ _ _ c.find-end.ensures.value (omega arith) c.requires.1

pub returns : goal.returns
returns c =
    reads-line _ _ _ c.find-end.ensures.value c.requires.1 (omega arith) _ _ c.accepted_line-head.ensures c.role_of.ensures
