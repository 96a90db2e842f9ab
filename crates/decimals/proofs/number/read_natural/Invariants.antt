-- `read_natural` meets its contract: the number is what the digits from the index on make behind those of `value`.
use Prim.Native.Nat.{◌≤◌}
use mathlib.Core.Path.{◌≡◌}
use lib.ListN.{drop}
use Rattle.decimals.specs.Number.{natural}
use Rattle.decimals.proofs.Reading.{within}
use Rattle.decimals.proofs.number.read_natural.Given as goal

abbrev pub invariant-loop-b : goal.invariant-loop-b
invariant-loop-b l = (natural l.limit l.s ≡ within l.limit l.value (drop l.b-index l.s)) × (l.value ≤ l.limit)
