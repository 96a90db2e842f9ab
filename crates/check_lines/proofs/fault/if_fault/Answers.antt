-- `if_fault` meets its contract: 16 ifs may be open, and there is room.
use borrow.Author.Tests.{lt-ltb, le-ltb}
use Rattle.check_lines.proofs.OpenIfs.{depth_is}
use Rattle.check_lines.proofs.fault.if_fault.Goals as goal

pub returns-then-s-ge-LEVELS : goal.returns-then-s-ge-LEVELS
returns-then-s-ge-LEVELS c = λ os x. simp (depth_is, le-ltb _ _ c.if-s-ge-LEVELS.true)

pub returns : goal.returns
returns c = λ os x. simp (depth_is, lt-ltb _ _ c.if-s-ge-LEVELS.false) c.room_fault.ensures
