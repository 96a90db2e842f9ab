-- `show` meets its contract: the refusal of the guide is its line; else the plate stands at the front of one buffer and its listing at the front of the other.
use Rattle.show.proofs.Shown.{turned_down, taken, never-refused, listed}
use borrow.Author.Rules.{rules}
use Rattle.show.proofs.show.Goals as goal

pub slice_bounds-plate-end : goal.slice_bounds-plate-end
slice_bounds-plate-end c = (taken _ _ _ c.translate.ensures c.in-Ok.is).1.0

pub slice_bounds-read_plate-end : goal.slice_bounds-read_plate-end
slice_bounds-read_plate-end c = (taken _ _ _ c.translate.ensures c.in-Ok.is).1.1

pub slice_bounds-listing-end : goal.slice_bounds-listing-end
slice_bounds-listing-end c = let t = taken _ _ _ c.translate.ensures c.in-Ok.is in
    (listed _ _ _ _ _ t.0 c.read_plate.ensures (search rules) c.in-Ok-read_plate.is).1.0

pub slice_bounds-put_accepted-end : goal.slice_bounds-put_accepted-end
slice_bounds-put_accepted-end c = let t = taken _ _ _ c.translate.ensures c.in-Ok.is in
    (listed _ _ _ _ _ t.0 c.read_plate.ensures (search rules) c.in-Ok-read_plate.is).1.1

pub slice_bounds-plate-end-in-Ok-read_plate : goal.slice_bounds-plate-end-in-Ok-read_plate
slice_bounds-plate-end-in-Ok-read_plate c = (taken _ _ _ c.translate.ensures c.in-Ok.is).1.0

pub slice_bounds-put_accepted-end-in-Ok-read_plate : goal.slice_bounds-put_accepted-end-in-Ok-read_plate
slice_bounds-put_accepted-end-in-Ok-read_plate c = (taken _ _ _ c.translate.ensures c.in-Ok.is).1.1

pub returns-in-Err : goal.returns-in-Err
returns-in-Err c = rw (turned_down _ _ _ c.translate.ensures c.in-Err.is (search rules)).text c.put_refused.ensures

pub returns-in-Err-read_plate : goal.returns-in-Err-read_plate
returns-in-Err-read_plate c = let t = taken _ _ _ c.translate.ensures c.in-Ok.is in
    absurd (never-refused _ _ _ _ _ t.0 c.read_plate.ensures (search rules) c.in-Err-read_plate.is)

pub returns-in-Ok-read_plate : goal.returns-in-Ok-read_plate
returns-in-Ok-read_plate c = let t = taken _ _ _ c.translate.ensures c.in-Ok.is in
    rw (listed _ _ _ _ _ t.0 c.read_plate.ensures (search rules) c.in-Ok-read_plate.is).0 at c.put_accepted.ensures
