-- The pairs of one more byte.
use Prim.Native.Nat.{ℕ, ◌/◌, ◌%◌}
use mathlib.Core.Path.{◌≡◌, refl, ap}
use mathlib.Core.List.{List, [], ◌∷◌, ◌++◌}
use Rattle.printed.specs.Pairs.{hexadecimal, pairs}

pub pairs-one-more : (bs : List ℕ) (b : ℕ) → pairs (bs ++ (b ∷ [])) ≡ pairs bs ++ (hexadecimal (b / 16) ∷ hexadecimal (b % 16) ∷ [])
unfolding pairs
pairs-one-more [] b = refl
pairs-one-more (a ∷ bs) b = ap (λ (l : List ℕ). hexadecimal (a / 16) ∷ hexadecimal (a % 16) ∷ l) (pairs-one-more bs b)
