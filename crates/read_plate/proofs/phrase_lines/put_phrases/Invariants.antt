-- `put_phrases` meets its contract. The loop's invariant: the phrases from k on make all of them.
use mathlib.Core.Path.{◌≡◌}
use mathlib.Core.List.{map}
use lib.ListN.{length, drop}
use Rattle.output.specs.Pour.{poured}
use Rattle.listing.specs.Listing.{phrase_fields, lines_text}
use Rattle.listing_lines.proofs.Pieces.{LeftOf, lines-pieces}
use Rattle.read_plate.proofs.phrase_lines.put_phrases.Given as goal

abbrev pub invariant-loop-k : goal.invariant-loop-k
invariant-loop-k l = LeftOf (lines-pieces phrase_fields) (drop l.k l.known.own) l.end l.out
    (poured l.at (lines_text (map phrase_fields l.known.own)) l.initial.out) × (length l.out ≡ length l.initial.out)
