-- `has` meets its contract: the flag says whether the first x stands before the place i.
use mathlib.Core.Path.{◌≡◌}
use lib.ListN.{drop}
use lib.Dec.{ltb}
use Rattle.text.specs.Parts.{until_byte}
use Rattle.text.proofs.search.has.Given as goal

abbrev pub invariant-loop-i : goal.invariant-loop-i
invariant-loop-i l = l.hit ≡ ltb (until_byte l.x (drop l.a l.s)) l.i
