-- `produce` meets its contract: the own phrases' lines, and then the instructions' lines.
use native.Mathlib.Omega.{arith}
use Rattle.read_plate.proofs.Whole.{write-listing}
use Rattle.read_plate.proofs.passes.produce.Goals as goal

pub returns : goal.returns
returns c = write-listing _ _ _ _ _ _ _ c.put_phrases-end.ensures c.put_instructions.ensures (omega arith)
