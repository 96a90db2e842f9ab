-- A text of n bytes has at most n + 1 lines.
use Prim.Native.Nat.{ℕ, suc, ◌≤◌}
use native.Mathlib.Omega.{arith}
use mathlib.Core.List.{List, [], ◌∷◌}
use mathlib.Core.Bool.{Bool, true, false, cond}
use lib.ListN.{length}
use lib.Dec.{eqb}
use Rattle.text.specs.Parts.{split, on_first, LF}
use Rattle.lines.specs.declared.Form.TheVariants.{Guide as a_guide}
use Rattle.lines.specs.Line.{lines_in}
use Rattle.lines.specs.Check.{lines_of}
use Rattle.guide.specs.Lines.{lines_at}

parts-few : (x : ℕ) (s : List ℕ) → length (split x s) ≤ suc (length s)
unfolding split
parts-few x [] = omega arith
parts-few x (b ∷ s) = go (eqb b x) (split x s) (parts-few x s)
  where
    first : (ps : List (List ℕ)) → length (on_first b ps) ≤ suc (length ps)
    first [] = omega arith
    first (p ∷ ps) = omega arith

    go : (v : Bool) (ps : List (List ℕ)) → length ps ≤ suc (length s) → length (cond v ([] ∷ ps) (on_first b ps)) ≤ suc (suc (length s))
    go true ps h = omega arith
    go false ps h = omega (arith, first ps)

lines-few : (ps : List (List ℕ)) → length (lines_in a_guide ps) ≤ length ps
unfolding lines_in
lines-few [] = omega arith
lines-few ([] ∷ []) = omega arith
lines-few ((b ∷ p) ∷ []) = omega arith
lines-few (p ∷ q ∷ ps) = omega (arith, lines-few (q ∷ ps))

pub all_lines : (g : List ℕ) → length (lines_of a_guide g) ≤ suc (length g)
all_lines g = omega (arith, lines-few (split LF g), parts-few LF g)

pub few-lines : (g : List ℕ) → length (lines_at g 0) ≤ suc (length g)
unfolding lines_at
few-lines g = all_lines g
