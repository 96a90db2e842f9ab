-- What a passed test of two parts, of every element, or of the same bytes says.
use Prim.Native.Nat.{ℕ, ◌≤◌}
use mathlib.Core.Path.{◌≡◌, refl}
use mathlib.Core.List.{List, [], ◌∷◌, ◌++◌}
use mathlib.Core.Bool.{Bool, true, false, ◌&&◌, and-eq-true_iff}
use lib.Dec.{leb, eqb}
use borrow.Author.Tests.{leb-true, eqb-true, eq-eqb}
use Rattle.text.specs.Parts.{all, same}

pub and_parts : (a b : Bool) → (a && b) ≡ true → (a ≡ true) × (b ≡ true)
and_parts a b = (and-eq-true_iff a b).0

pub and_both : {a b : Bool} → a ≡ true → b ≡ true → (a && b) ≡ true
and_both h k = rw (h, k)

pub in-range : (a n b : ℕ) → (leb a n && leb n b) ≡ true → (a ≤ n) × (n ≤ b)
in-range a n b h = let k = and_parts (leb a n) (leb n b) h in (leb-true a n k.0, leb-true n b k.1)

module _ {A : Type 0} (p : A → Bool) where
  pub all_first : (a : A) (s : List A) → all p (a ∷ s) ≡ true → p a ≡ true
  unfolding all
  all_first a s h = (and_parts (p a) (all p s) h).0

  pub all_rest : (a : A) (s : List A) → all p (a ∷ s) ≡ true → all p s ≡ true
  unfolding all
  all_rest a s h = (and_parts (p a) (all p s) h).1

  pub all_cons : (a : A) (s : List A) → p a ≡ true → all p s ≡ true → all p (a ∷ s) ≡ true
  unfolding all
  all_cons a s h k = and_both h k

  pub all_append : (s t : List A) → all p s ≡ true → all p t ≡ true → all p (s ++ t) ≡ true
  unfolding all
  all_append [] t h k = k
  all_append (a ∷ s) t h k = all_cons a (s ++ t) (all_first a s h) (all_append s t (all_rest a s h) k)

-- where each that passes p passes q
module _ {A : Type 0} (p q : A → Bool) (f : (a : A) → p a ≡ true → q a ≡ true) where
  pub all_so : (s : List A) → all p s ≡ true → all q s ≡ true
  unfolding all
  all_so [] h = refl
  all_so (a ∷ s) h = all_cons q a s (f a (all_first p a s h)) (all_so s (all_rest p a s h))

  pub each-so : (ss : List (List A)) → all (all p) ss ≡ true → all (all q) ss ≡ true
  unfolding all
  each-so [] h = refl
  each-so (s ∷ ss) h = all_cons (all q) s ss (all_so s (all_first (all p) s ss h)) (each-so ss (all_rest (all p) s ss h))

pub same_self : (s : List ℕ) → same s s ≡ true
unfolding same
same_self [] = refl
same_self (a ∷ s) = and_both (eq-eqb a a refl) (same_self s)

pub same-when : (s t : List ℕ) → s ≡ t → same s t ≡ true
same-when s t e = rw e (same_self t)

pub same-equal : (s t : List ℕ) → same s t ≡ true → s ≡ t
unfolding same
same-equal [] [] h = refl
same-equal [] (b ∷ t) h = cc
same-equal (a ∷ s) [] h = cc
same-equal (a ∷ s) (b ∷ t) h = let e = and_parts (eqb a b) (same s t) h in λ i. eqb-true a b e.0 i ∷ same-equal s t e.1 i

pub same-other : (s t : List ℕ) → (s ≡ t → ⊥) → same s t ≡ false
same-other s t n = go (same s t) refl
  where
    go : (v : Bool) → same s t ≡ v → v ≡ false
    go true e = absurd (n (same-equal s t e))
    go false e = refl
