-- `plate_room` meets its contract: the two tests in their order.
use borrow.Author.Tests.{le-leb, lt-leb}
use Rattle.plate_room.specs.Plates.{plate_room}
use Rattle.plate_room.proofs.sizes.plate_room.Goals as goal

pub returns-then-length-gt-PLATE_BYTES : goal.returns-then-length-gt-PLATE_BYTES
unfolding plate_room
returns-then-length-gt-PLATE_BYTES c = simp (lt-leb _ _ c.if-length-gt-PLATE_BYTES.true)

pub returns-then-length-lent : goal.returns-then-length-lent
unfolding plate_room
returns-then-length-lent c = simp (le-leb _ _ c.if-length-gt-PLATE_BYTES.false, lt-leb _ _ c.if-length-lent.true)

pub returns : goal.returns
unfolding plate_room
returns c = simp (le-leb _ _ c.if-length-gt-PLATE_BYTES.false, le-leb _ _ c.if-length-lent.false)
