-- `write` meets its contract: the whole listing at once, 11 where the buffer is too short, and else the whole listing.
use native.Mathlib.Omega.{arith}
use Rattle.read_plate.proofs.Whole.{too_short, whole, straight}
use Rattle.read_plate.proofs.passes.write.Goals as goal

pub returns-then-most-listing : goal.returns-then-most-listing
returns-then-most-listing c =
    straight _ _ _ c.requires.0 c.requires.1 _ _ _ c.put_phrases.ensures _ c.sum-most.ensures _ _ _ c.produce.ensures c.if-most-listing.true (omega arith)

pub returns-then-listing-length : goal.returns-then-listing-length
returns-then-listing-length c = too_short _ _ _ _ c.produce-length.ensures _ c.if-listing-length.true

pub returns : goal.returns
returns c = whole _ _ _ _ c.produce-length.ensures _ _ _ c.produce-2.ensures c.if-listing-length.false (omega arith)
