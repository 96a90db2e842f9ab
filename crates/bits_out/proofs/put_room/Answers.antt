-- `bits_out::put_room` meets its contract: of the bits, those that have room are stored. Assumes nothing.
use mathlib.Core.Path.{refl}
use Rattle.bits_out.proofs.Writing.{room-written}
use Rattle.bits_out.proofs.put_room.Goals as goal

pub returns : goal.returns
returns c =
    let a = c.args in
    room-written a.out.now c.store.new.out a.at a.width a.value _ _ c.store.ensures refl c.room-count.ensures
