-- `produce` meets its contract: behind the front, the instructions from the place a on are left to write, and before a no skip goes past;
-- the filling comes last.
use Prim.Native.Nat.{◌-◌}
use lib.ListN.{length}
use Rattle.lines.specs.Check.{lines_of}
use Rattle.plate.specs.Writing.{instructions_bits}
use Rattle.text_bits.proofs.Writes.{Left}
use Rattle.assemble.specs.LineCode.{lines_code}
use Rattle.assemble.proofs.LinesFrom.{code_from}
use Rattle.assemble.proofs.Searched.{Searched}
use Rattle.assemble.proofs.produce.Given as goal

abbrev pub invariant-loop-a : goal.invariant-loop-a
invariant-loop-a l = Searched l.form l.skips l.text (length l.known.own) l.instructions l.left l.a
    × Left l.initial.end (instructions_bits l.known (lines_code l.skips (lines_of l.form l.text))) l.initial.out l.end (instructions_bits l.known (code_from l.form l.skips l.text (l.instructions - l.left) l.a)) l.out

abbrev pub decreases-loop-a : goal.decreases-loop-a
decreases-loop-a l = length l.text - l.a
