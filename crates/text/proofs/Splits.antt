-- Parts split at a byte and joined by it again are the same, and so are joined parts that are split.
use Prim.Native.Nat.{ℕ}
use mathlib.Core.Path.{◌≡◌, refl, sym, ap, ◌∙◌}
use mathlib.Core.List.{List, [], ◌∷◌, ◌++◌}
use mathlib.Core.Bool.{Bool, true, false, cond, not}
use lib.Dec.{eqb}
use borrow.Author.Tests.{eqb-true, eq-eqb, not-true}
use Rattle.text.specs.Parts.{all, split, join, on_first}
use Rattle.text.proofs.Tests.{all_first, all_rest, all_cons, all_append}

-- a byte that is not x
abbrev pub other : ℕ → ℕ → Bool
other x b = not (eqb b x)

-- ---- split, then joined

-- a first part, and those behind it
abbrev pub Some : List (List ℕ) → Type 0
Some ps = (q : List ℕ) × (qs : List (List ℕ)) × (ps ≡ q ∷ qs)

pub split-some : (x : ℕ) (s : List ℕ) → Some (split x s)
unfolding split
split-some x [] = ([], [], refl)
split-some x (b ∷ s) = go (eqb b x) (split-some x s)
  where
    go : (t : Bool) → Some (split x s) → Some (cond t ([] ∷ split x s) (on_first b (split x s)))
    go true h = ([], split x s, refl)
    go false (p, ps, e) = (b ∷ p, ps, ap (on_first b) e)

pub join-split : (x : ℕ) (s : List ℕ) → join x (split x s) ≡ s
unfolding split join
join-split x [] = refl
join-split x (b ∷ s) = go (eqb b x) refl (split-some x s) (join-split x s)
  where
    onward : (ps : List (List ℕ)) → Some ps → join x ps ≡ s → join x ([] ∷ ps) ≡ x ∷ s
    onward ps (q, qs, e) h = rw e (ap (◌∷◌ x) (rw e at h))

    first : (ps : List (List ℕ)) → join x ps ≡ s → join x (on_first b ps) ≡ b ∷ s
    first [] h = ap (◌∷◌ b) h
    first (p ∷ []) h = ap (◌∷◌ b) h
    first (p ∷ q ∷ qs) h = ap (◌∷◌ b) h

    go : (t : Bool) → eqb b x ≡ t → Some (split x s) → join x (split x s) ≡ s
        → join x (cond t ([] ∷ split x s) (on_first b (split x s))) ≡ b ∷ s
    go true e k h = onward (split x s) k h ∙ ap (λ y. y ∷ s) (sym (eqb-true b x e))
    go false e k h = first (split x s) h

-- ---- joined, then split

module _ (x : ℕ) where
  -- bytes up to the first x are a part
  pub split-part : (p s : List ℕ) → all (other x) p ≡ true → split x (p ++ x ∷ s) ≡ p ∷ split x s
  unfolding split
  split-part [] s h = rw (eq-eqb x x refl)
  split-part (b ∷ p) s h = rw (not-true (eqb b x) (all_first (other x) b p h), split-part p s (all_rest (other x) b p h))

  -- bytes with no x are one part
  pub split-last : (p : List ℕ) → all (other x) p ≡ true → split x p ≡ p ∷ []
  unfolding split
  split-last [] h = refl
  split-last (b ∷ p) h = rw (not-true (eqb b x) (all_first (other x) b p h), split-last p (all_rest (other x) b p h))

  -- one part or more, with no x in any
  pub split-join : (p : List ℕ) (ps : List (List ℕ)) → all (all (other x)) (p ∷ ps) ≡ true → split x (join x (p ∷ ps)) ≡ p ∷ ps
  unfolding join
  split-join p [] h = split-last p (all_first (all (other x)) p [] h)
  split-join p (q ∷ ps) h =
      split-part p (join x (q ∷ ps)) (all_first (all (other x)) p (q ∷ ps) h)
      ∙ ap (◌∷◌ p) (split-join q ps (all_rest (all (other x)) p (q ∷ ps) h))

  -- what holds of x and of each part's bytes holds of all bytes
  pub join-all : (p : ℕ → Bool) → p x ≡ true → (ps : List (List ℕ)) → all (all p) ps ≡ true → all p (join x ps) ≡ true
  unfolding join all
  join-all p h [] k = refl
  join-all p h (q ∷ []) k = all_first (all p) q [] k
  join-all p h (q ∷ r ∷ ps) k =
      all_append p q (x ∷ join x (r ∷ ps))
      (all_first (all p) q (r ∷ ps) k)
      (all_cons p x (join x (r ∷ ps)) h (join-all p h (r ∷ ps) (all_rest (all p) q (r ∷ ps) k)))
