-- `role_at` meets its contract: the line ends at its LF, behind the last of which no bytes stand.
use native.Mathlib.Omega.{arith}
use Rattle.lines.proofs.CleanTexts.{clean_line}
use Rattle.guide.proofs.Reading.{reads_none, reads-role}
use Rattle.guide.proofs.places.role_at.Goals as goal

pub returns-then-end-guide : goal.returns-then-end-guide
returns-then-end-guide c = reads_none _ _ _ c.find-end.ensures.value c.requires.1 c.if-end-guide.true

pub role_in-requires : goal.role_in-requires
role_in-requires c = clean_line _ _ _ _ c.find-end.ensures.value (omega arith) c.requires.1

pub returns : goal.returns
returns c =
    reads-role _ _ _ c.find-end.ensures.value c.requires.1 (omega arith) _ c.role_in.ensures
