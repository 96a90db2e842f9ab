-- `put_front` meets its contract: the own phrases, and the number behind them.
use Rattle.text_bits.proofs.Writes.{both}
use Rattle.plate_room.proofs.own.put_front.Goals as goal

pub returns : goal.returns
returns c =
    both _ _ _ _ c.put_own-end.ensures c.put_bits.ensures c.requires.0
