-- `enter_own` meets its contract.
use mathlib.Core.Path.{refl}
use Rattle.phrases.specs.Own.{own_number}
use Rattle.phrase_lookup.proofs.own.enter_own.Goals as goal

pub returns : goal.returns
unfolding own_number
returns c = rw (c.count_of.ensures, c.key_of.ensures) refl
