-- A line is well-formed where each of its fields is.
use Prim.Native.Nat.{ℕ, ◌≤◌}
use mathlib.Core.Path.{◌≡◌, sym, ap, ◌∙◌}
use mathlib.Core.List.{List, [], ◌∷◌}
use mathlib.Core.Bool.{◌&&◌, and-true}
use Rattle.text.specs.Parts.{all, split, join}
use Rattle.text.proofs.Splits.{Some, split-some, join-split}
use Rattle.text.specs.Utf8.{well_formed}
use Rattle.text.proofs.Letters.{well-parted}

module _ (x : ℕ) (h : x ≤ 0x7F) where
  pub well-join : (p : List ℕ) (ps : List (List ℕ)) → well_formed (join x (p ∷ ps)) ≡ all well_formed (p ∷ ps)
  unfolding join all
  well-join p [] = sym (and-true (well_formed p))
  well-join p (q ∷ ps) = well-parted x h p (join x (q ∷ ps)) ∙ ap (λ v. well_formed p && v) (well-join q ps)

  pub well-split : (s : List ℕ) → well_formed s ≡ all well_formed (split x s)
  well-split s = go (split-some x s) (join-split x s)
    where
      go : Some (split x s) → join x (split x s) ≡ s → well_formed s ≡ all well_formed (split x s)
      go (p, ps, e) j = ap well_formed (sym j) ∙ rw e (well-join p ps)
