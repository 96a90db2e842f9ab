-- `put_texts` meets its contract: the fields from the place a on are left to write.
use Prim.Native.Nat.{◌+◌, ◌-◌}
use lib.ListN.{length}
use Rattle.text.specs.Parts.{parts_from, comma}
use Rattle.plate.specs.Writing.{texts_bits}
use Rattle.text_bits.proofs.Writes.{Left}
use Rattle.text_bits.proofs.texts.put_texts.Given as goal

abbrev pub invariant-loop-a : goal.invariant-loop-a
invariant-loop-a l = Left l.at (texts_bits l.known (parts_from comma l.from l.line)) l.initial.out l.end (texts_bits l.known (parts_from comma l.a l.line)) l.out

abbrev pub decreases-loop-a : goal.decreases-loop-a
decreases-loop-a l = length l.line + 1 - l.a
