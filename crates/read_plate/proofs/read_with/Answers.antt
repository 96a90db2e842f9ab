-- `read_with` meets its contract: it is `read_own`, with room where the plate has own phrases.
use mathlib.Core.List.{[]}
use Rattle.reader.proofs.OwnFirst.{none-room}
use Rattle.read_plate.proofs.read_with.Goals as goal

pub read_own-requires-2 : goal.read_own-requires-2
read_own-requires-2 c = (c.requires, none-room _ [] c.has_own.ensures c.if-has_own.false)
