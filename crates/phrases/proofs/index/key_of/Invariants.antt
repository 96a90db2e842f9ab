-- `key_of` meets its contract: the sum so far and the weight of what is left are the weight of the first 64 bytes.
use Prim.Native.Nat.{suc, ◌+◌, ◌*◌, ◌≤◌}
use mathlib.Core.Path.{◌≡◌}
use lib.ListN.{drop}
use Rattle.phrases.specs.Index.{weigh}
use Rattle.phrases.proofs.index.key_of.Given as goal

abbrev pub invariant-loop-i : goal.invariant-loop-i
invariant-loop-i l = (l.sum + weigh (suc l.i) (drop l.i l.front) ≡ weigh 1 l.front) × (l.sum ≤ 16320 * l.i)
