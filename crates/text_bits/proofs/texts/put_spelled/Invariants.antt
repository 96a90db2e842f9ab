-- `put_spelled` meets its contract: the characters of the groups that are left are left to write.
use Prim.Native.Nat.{◌/◌, ◌<◌}
use mathlib.Core.Path.{◌≡◌}
use Rattle.plate.specs.Writing.{spelled_bits}
use Rattle.text_bits.proofs.Writes.{Left}
use Rattle.text_bits.proofs.texts.put_spelled.Given as goal

abbrev pub invariant-loop-group : goal.invariant-loop-group
invariant-loop-group l =
    record {
      left : Left l.at (spelled_bits l.width l.text) l.initial.out l.end (spelled_bits l.width l.group-iterator.rest.now) l.out;
      size : l.group-iterator.size ≡ 56 / l.width;
      goes : 0 < l.group-iterator.size;
    }
