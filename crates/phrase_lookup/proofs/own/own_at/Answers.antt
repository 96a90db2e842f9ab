-- `own_at` meets its contract: the number has the place and the length of the text.
use Rattle.phrases.proofs.OwnEntries.{own_room, own-end, own-part}
use Rattle.phrase_lookup.proofs.own.own_at.Goals as goal

pub number_of-number-requires : goal.number_of-number-requires
number_of-number-requires c = own_room _ _ _ _ c.requires.0 c.requires.1

pub slice_bounds-result-end : goal.slice_bounds-result-end
slice_bounds-result-end c =
    rw c.number_of-number.ensures (own-end _ _ _ _ c.requires.0 c.requires.1)

pub returns : goal.returns
returns c = own-part _ _ _ _ c.requires.0 c.requires.1 _ c.number_of-number.ensures
