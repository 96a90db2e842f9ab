-- `put_phrases` meets its contract. The loop's invariant: the phrases from k on make all of them.
use Rattle.std.proofs.Common.{refl, [], rules, arith}
use native.Mathlib.Numerals.{add-one}
use lib.ListN.{drop_of_length-le}
use lib.Seq.{drop-cons}
use Rattle.listing.specs.Listing.{phrase_fields}
use Rattle.listing_lines.proofs.Pieces.{lines-pieces, of-next, of_end}
use Rattle.read_plate.proofs.phrase_lines.put_phrases.Goals as goal

pub loop-k-init : goal.loop-k-init
loop-k-init c = (record { written = refl; counted = omega arith }, refl)

pub loop-k-preserved : goal.loop-k-preserved
loop-k-preserved c =
    let first = drop-cons c.args.known.now.own c.loop-k.k [] (omega arith) in
    (rw add-one (of-next (lines-pieces phrase_fields) c.loop-k.invariant.0 first (rw c.text.ensures at c.phrase_at-end.ensures) (omega arith)), search rules)

pub returns : goal.returns
returns c =
    let none = drop_of_length-le c.args.known.now.own {i = c.loop-k.k} (omega arith) in
    of_end (lines-pieces phrase_fields) c.loop-k.invariant.0 none
