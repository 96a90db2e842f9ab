-- The weight of bytes, byte by byte.
use mir.Val.{Fits}
use mir.Syntax.{w8}
use Prim.Native.Nat.{ℕ, suc, ◌+◌, ◌*◌, ◌≤◌, ◌<◌}
use native.Mathlib.Omega.{arith}
use native.Mathlib.Nat.{mul-le-mul}
use native.Mathlib.Numerals.{add-one}
use mathlib.Core.Path.{◌≡◌}
use mathlib.Core.List.{List}
use lib.ListN.{length, drop, get_or, drop_of_length-le}
use lib.Seq.{drop-cons}
use Rattle.phrases.specs.Index.{weigh}

pub product_small : (b i : ℕ) → Fits w8 b → i < 64 → b * (i + 1) ≤ 16320
product_small b i h l = mul-le-mul {n₁ = b} {m₁ = i + 1} {n₂ = 255} {m₂ = 64} (omega arith) (omega arith)

module _ (s : List ℕ) (i : ℕ) where
  pub weigh-on : i < length s → weigh (suc i) (drop i s) ≡ get_or s i 0 * (i + 1) + weigh (suc (i + 1)) (drop (i + 1) s)
  unfolding weigh
  weigh-on h = rw (add-one i, drop-cons s i 0 h)

  pub weigh-none : (k : ℕ) → length s ≤ i → weigh k (drop i s) ≡ 0
  unfolding weigh
  weigh-none k h = rw (drop_of_length-le s h)
