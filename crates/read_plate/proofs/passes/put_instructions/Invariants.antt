-- `put_instructions` meets its contract. The loop's invariant: what is left of the instructions makes all of them.
use mathlib.Core.Path.{◌≡◌}
use mathlib.Core.List.{map}
use lib.ListN.{length}
use Rattle.output.specs.Pour.{poured}
use Rattle.plate.specs.Plate.{instruction}
use Rattle.reader.specs.Holding.{instructions_at}
use Rattle.listing.specs.Listing.{instruction_fields, lines_text}
use Rattle.listing_lines.proofs.Pieces.{Left, lines-pieces}
use Rattle.read_plate.proofs.passes.put_instructions.Given as goal

abbrev pub invariant-loop-behind : goal.invariant-loop-behind
invariant-loop-behind l = Left (lines-pieces instruction_fields) (instruction l.known) l.plate l.behind l.place l.end l.out
    (poured l.at (lines_text (map instruction_fields (instructions_at l.plate l.known l.n l.bit))) l.initial.out) × (length l.out ≡ length l.initial.out)
