-- The number of parts: one more than the bytes x.
use Prim.Native.Nat.{ℕ, ◌+◌, ◌-◌}
use native.Mathlib.Omega.{arith}
use mathlib.Core.Path.{◌≡◌, refl, ap}
use mathlib.Core.List.{List, [], ◌∷◌}
use mathlib.Core.Bool.{Bool, true, false, cond}
use lib.ListN.{length}
use lib.Dec.{eqb}
use Rattle.std.specs.List.{count_by}
use Rattle.std.proofs.lemmas.List.Recursion.{is_count_by}
use Rattle.text.specs.Parts.{split, on_first}
use Rattle.text.proofs.Splits.{Some, split-some}

module _ (x : ℕ) where
  -- the parts behind the first
  more : List ℕ → ℕ
  more s = length (split x s) - 1

  more-on : (b : ℕ) (s : List ℕ) → more (b ∷ s) ≡ cond (eqb b x) (1 + more s) (more s)
  unfolding more split
  more-on b s = go (eqb b x) (split x s) (split-some x s)
    where
      go : (t : Bool) (ps : List (List ℕ)) → Some ps
          → length (cond t ([] ∷ ps) (on_first b ps)) - 1 ≡ cond t (1 + (length ps - 1)) (length ps - 1)
      go true ps (q, qs, e) = rw e (omega arith)
      go false ps (q, qs, e) = rw e

  pub parts_counted : (s : List ℕ) → length (split x s) ≡ 1 + count_by (λ b. eqb b x) s
  unfolding more split
  parts_counted s = let (q, qs, e) = split-some x s in
      omega (arith, ap length e, is_count_by more (λ b. eqb b x) refl more-on s)
