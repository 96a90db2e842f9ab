-- `run_with` meets its contract: it is `run_own`, with room where the plate has own phrases.
use mathlib.Core.List.{[]}
use Rattle.reader.proofs.OwnFirst.{none-room}
use Rattle.run.proofs.run_with.Goals as goal

pub run_own-requires-2 : goal.run_own-requires-2
run_own-requires-2 c = (c.requires, none-room _ [] c.has_own.ensures c.if-has_own.false)
