-- `put_phrases` meets its contract: the phrases from the place a on are left to write.
use Prim.Native.Nat.{◌+◌, ◌≤◌}
use lib.ListN.{length}
use Rattle.phrases.specs.Lookup.{own_texts}
use Rattle.phrases.proofs.FirstLines.{own_from}
use Rattle.plate.specs.Writing.{phrases_bits}
use Rattle.text_bits.proofs.Writes.{Left}
use Rattle.plate_room.proofs.own.put_phrases.Given as goal

abbrev pub invariant-loop : goal.invariant-loop
invariant-loop l = Left l.at (phrases_bits (own_texts l.count l.own)) l.initial.out l.end (phrases_bits (own_from l.count l.counter l.a l.own)) l.out
    × (l.a ≤ length l.own + 1)
