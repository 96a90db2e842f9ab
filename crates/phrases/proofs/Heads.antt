-- The last text of a list: one text more, and what it says of the texts.
use Prim.Native.Nat.{ℕ, zero, suc, ◌+◌, ◌-◌, ◌≤◌, ◌<◌}
use native.Mathlib.Omega.{arith}
use native.Mathlib.Nat.{add-zero, zero-add}
use mathlib.Core.Path.{◌≡◌, refl, ap}
use mathlib.Core.List.{List, [], ◌∷◌, ◌++◌}
use mathlib.Core.Bool.{Bool, true, false, cond}
use lib.ListN.{length, take, get_or, set}
use lib.Seq.{length-take-le, take-suc, take-length}
use lib.Dec.{eqb, ltb}
use borrow.Author.Tests.{eqb-true, eqb-false, eq-eqb, ne_eqb, ltb-true, ltb-false}
use Rattle.text.specs.Text.{Text}
use Rattle.phrases.specs.Index.{key, list_of, last_from, last_of, lasts_from}

-- ---- one text more

pub last_more : (list before found : ℕ) (ts : List Text) (t : Text)
    → last_from list before found (ts ++ (t ∷ [])) ≡ cond (eqb (list_of (key t)) list) (suc (before + length ts)) (last_from list before found ts)
unfolding last_from
last_more list before found [] t = rw add-zero
last_more list before found (u ∷ ts) t =
    let e : suc before + length ts ≡ before + suc (length ts) = omega arith in
    rw e at (last_more list (suc before) (cond (eqb (list_of (key u)) list) (suc before) found) ts t)

-- the last texts of the lists: the new text is the last of its own
pub lasts-length : (list n : ℕ) (ts : List Text) → length (lasts_from list n ts) ≡ n
unfolding lasts_from
lasts-length list zero ts = refl
lasts-length list (suc n) ts = ap suc (lasts-length (suc list) n ts)

pub lasts-at : (list n : ℕ) (ts : List Text) (i : ℕ) → i < n → get_or (lasts_from list n ts) i 0 ≡ last_of (list + i) ts
unfolding lasts_from
lasts-at list zero ts i h = absurd (omega arith)
lasts-at list (suc n) ts zero h = rw add-zero
lasts-at list (suc n) ts (suc i) h =
    let e : suc list + i ≡ list + suc i = omega arith in rw e at (lasts-at (suc list) n ts i (omega arith))

lasts-same : (list n : ℕ) (ts : List Text) (t : Text) → list_of (key t) < list → lasts_from list n (ts ++ (t ∷ [])) ≡ lasts_from list n ts
unfolding lasts_from
lasts-same list zero ts t h = refl
lasts-same list (suc n) ts t h =
    let other = ne_eqb (list_of (key t)) list (λ e. omega arith) in
    let first : last_of list (ts ++ (t ∷ [])) ≡ last_of list ts = rw (last_more, other) in
    rw (first, lasts-same (suc list) n ts t (omega arith))

pub lasts-more : (list n : ℕ) (ts : List Text) (t : Text) (i : ℕ) → list_of (key t) ≡ list + i → i < n
    → lasts_from list n (ts ++ (t ∷ [])) ≡ set (lasts_from list n ts) i (suc (length ts))
unfolding lasts_from
lasts-more list zero ts t i e h = absurd (omega arith)
lasts-more list (suc n) ts t zero e h =
    let here = eq-eqb (list_of (key t)) list (omega arith) in
    let first : last_of list (ts ++ (t ∷ [])) ≡ suc (length ts) = rw (last_more, here, zero-add) in
    rw (first, lasts-same (suc list) n ts t (omega arith))
lasts-more list (suc n) ts t (suc i) e h =
    let other = ne_eqb (list_of (key t)) list (λ k. omega arith) in
    let first : last_of list (ts ++ (t ∷ [])) ≡ last_of list ts = rw (last_more, other) in
    rw (first, lasts-more (suc list) n ts t i (omega arith) (omega arith))

-- ---- what the last text x of a list says of the first m texts

pub record Last (list : ℕ) (ts : List Text) (m x : ℕ) : Type 0 where
  pub bound : x ≤ m
  pub there : 0 < x → list_of (key (get_or ts (x - 1) [])) ≡ list
  pub others : (j : ℕ) → x ≤ j → j < m → list_of (key (get_or ts j [])) ≡ list → ⊥

module _ (list : ℕ) (ts : List Text) where
  last-take : (m : ℕ) → m < length ts
      → last_of list (take (suc m) ts) ≡ cond (eqb (list_of (key (get_or ts m []))) list) (suc m) (last_of list (take m ts))
  last-take m h = rw (take-suc ts m [] h, last_more, length-take-le m ts (omega arith), zero-add)

  pub last-is : (m : ℕ) → m ≤ length ts → Last list ts m (last_of list (take m ts))
  unfolding last_from
  last-is zero h = record { bound = omega arith; there = λ p. absurd (omega arith); others = λ j a b e. omega arith }
  last-is (suc m) h = rw (last-take m (omega arith)) (go (eqb (list_of (key (get_or ts m []))) list) refl (last-is m (omega arith)))
    where
      go : (v : Bool) → eqb (list_of (key (get_or ts m []))) list ≡ v → Last list ts m (last_of list (take m ts))
          → Last list ts (suc m) (cond v (suc m) (last_of list (take m ts)))
      go true e l = record { bound = omega arith; there = λ p. let same : suc m - 1 ≡ m = omega arith in rw same (eqb-true (list_of (key (get_or ts m []))) list e); others = λ j a b k. omega arith }
      go false e l = record { bound = omega (arith, l.bound); there = l.there; others = λ j a b. on j a b (ltb j m) refl }
        where
          on : (j : ℕ) → last_of list (take m ts) ≤ j → j < suc m → (v : Bool) → ltb j m ≡ v → list_of (key (get_or ts j [])) ≡ list → ⊥
          on j a b true v k = l.others j a (ltb-true _ _ v) k
          on j a b false v k = let is : j ≡ m = omega (arith, ltb-false j m v) in eqb-false _ _ e (rw is at k)

  pub last-whole : Last list ts (length ts) (last_of list ts)
  last-whole = rw (take-length ts) at (last-is (length ts) (omega arith))
