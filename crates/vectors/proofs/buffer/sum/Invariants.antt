-- `sum` meets its contract: the sum so far is that of the bytes before the place, and stays below the modulus.
use Prim.Native.Nat.{◌<◌}
use mathlib.Core.Path.{◌≡◌}
use lib.ListN.{take}
use Rattle.vectors.specs.Sums.{sum_of}
use Rattle.vectors.proofs.buffer.sum.Given as goal

abbrev pub invariant-loop-byte : goal.invariant-loop-byte
invariant-loop-byte l = (l.sum ≡ sum_of l.factor l.modulus (take l.byte-index l.bytes)) × (l.sum < l.modulus)
