-- `pass_instructions` meets its contract. The loop's invariant: what is left ends where all of it ends.
use Rattle.std.proofs.Common.{◌+◌, ◌≤◌}
use Rattle.output.specs.Pour.{up_to}
use Rattle.listing.specs.LineSizes.{lines_room}
use Rattle.plate.specs.Plate.{instruction}
use Rattle.fields.specs.Places.{place_at}
use Rattle.plate_texts.proofs.TextsRead.{Passing}
use Rattle.reader.proofs.WholePlate.{rooms_of}
use Rattle.reader.proofs.passing.pass_instructions.Given as goal

abbrev pub invariant-loop-behind : goal.invariant-loop-behind
invariant-loop-behind l = Passing (instruction l.known) (place_at l.plate l.at) l.n rooms_of l.behind (place_at l.plate l.bit)
    (λ is. up_to (l.room + lines_room is)) × (l.room ≤ 18446744073709551615)
