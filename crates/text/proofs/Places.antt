-- Bytes and parts from a place of a text on.
use Prim.Native.Nat.{ℕ, zero, suc, ◌+◌, ◌-◌, ◌≤◌, ◌<◌}
use native.Mathlib.Omega.{arith}
use native.Mathlib.Nat.{zero-add, suc-add}
use native.Mathlib.Numerals.{add-one, sub-one}
use mathlib.Core.Path.{◌≡◌, refl, sym, ap, ◌∙◌}
use mathlib.Core.List.{List, [], ◌∷◌}
use mathlib.Core.Bool.{Bool, true, false, cond}
use lib.ListN.{length, take, drop, get_or, drop_of_length-le}
use lib.Seq.{drop-cons, drop-nil, get_or-drop}
use lib.Dec.{eqb, leb-suc-suc}
use borrow.Author.Tests.{eq-eqb, ne_eqb, le-leb, lt-leb}
use Rattle.text.specs.Parts.{until_byte, split, on_first, parts_from, same}
use Rattle.text.proofs.Tests.{same-other}

-- ---- the first byte x from the place i on

module _ (x : ℕ) (s : List ℕ) (i : ℕ) where
  pub until-here : i < length s → get_or s i 0 ≡ x → i ≡ i + until_byte x (drop i s)
  unfolding until_byte
  until-here h e = rw (drop-cons s i 0 h, eq-eqb (get_or s i 0) x e) (omega arith)

  pub until-later : i < length s → (get_or s i 0 ≡ x → ⊥) → i + until_byte x (drop i s) ≡ i + 1 + until_byte x (drop (i + 1) s)
  unfolding until_byte
  until-later h n = rw (drop-cons s i 0 h, add-one, ne_eqb (get_or s i 0) x n) (omega arith)

  pub until_none : length s ≤ i → i ≡ i + until_byte x (drop i s)
  unfolding until_byte
  until_none h = rw (drop_of_length-le s h) (omega arith)

-- ---- the parts from the place a on

module _ (x : ℕ) where
  split-on : (s : List ℕ) → split x s ≡ take (until_byte x s) s ∷ parts_from x (suc (until_byte x s)) s
  unfolding split until_byte parts_from
  split-on [] = refl
  split-on (b ∷ s) = go (eqb b x) (split-on s)
    where
      go : (t : Bool) → split x s ≡ take (until_byte x s) s ∷ parts_from x (suc (until_byte x s)) s
          → cond t ([] ∷ split x s) (on_first b (split x s))
          ≡ take (cond t 0 (suc (until_byte x s))) (b ∷ s) ∷ parts_from x (suc (cond t 0 (suc (until_byte x s)))) (b ∷ s)
      go true h = rw (le-leb 1 (suc (length s)) (omega arith))
      go false h = rw (h, leb-suc-suc (suc (until_byte x s)) (length s))

  parts-behind : (n a : ℕ) (s : List ℕ) → a ≤ length s → parts_from x n (drop a s) ≡ parts_from x (a + n) s
  unfolding parts_from
  parts-behind n zero s h = rw zero-add
  parts-behind n (suc a) [] h = absurd (omega arith)
  parts-behind n (suc a) (b ∷ s) h = rw (suc-add, leb-suc-suc) (parts-behind n a s (omega arith))

  pub parts_whole : (s : List ℕ) → split x s ≡ parts_from x 0 s
  unfolding parts_from
  parts_whole s = rw (le-leb 0 (length s) (omega arith))

  module _ (s : List ℕ) (a : ℕ) where
    pub parts-some : a ≤ length s → parts_from x a s ≡ split x (drop a s)
    unfolding parts_from
    parts-some h = rw (le-leb a (length s) h)

    pub parts_none : length s < a → parts_from x a s ≡ []
    unfolding parts_from
    parts_none h = rw (lt-leb a (length s) h)

    pub pass-last : length s < a → (n : ℕ) → drop n (parts_from x a s) ≡ parts_from x a s
    pass-last h n = rw (parts_none h) (drop-nil n)

  -- the part that starts at a ends at e
  module _ (s : List ℕ) (a e : ℕ) (h : a ≤ length s) (k : e ≡ a + until_byte x (drop a s)) where
    pub parts_next : parts_from x a s ≡ take (e - a) (drop a s) ∷ parts_from x (e + 1) s
    parts_next =
        let u : until_byte x (drop a s) ≡ e - a = omega arith in
        let n : a + suc (e - a) ≡ e + 1 = omega arith in
        parts-some s a h ∙ split-on (drop a s) ∙ rw (u, parts-behind (suc (e - a)) a s h, n)

    -- one part less is to be passed
    pub pass-next : (n : ℕ) → (n ≡ 0 → ⊥) → drop n (parts_from x a s) ≡ drop (n - 1) (parts_from x (e + 1) s)
    pass-next zero l = absurd (l refl)
    pass-next (suc n) l = rw (parts_next, sub-one)

-- ---- the part that starts at a, among the parts from there on

module _ (x : ℕ) (s : List ℕ) (a e : ℕ) (k : e ≡ a + until_byte x (drop a s)) where
  pub part-first : e < length s → split x (drop a s) ≡ take (e - a) (drop a s) ∷ split x (drop (e + 1) s)
  part-first l =
      let h : a ≤ length s = omega arith in
      sym (parts-some x s a h) ∙ parts_next x s a e h k ∙ rw (parts-some x s (e + 1) (omega arith))

  pub part-last : e ≡ length s → split x (drop a s) ≡ take (e - a) (drop a s) ∷ []
  part-last l =
      let h : a ≤ length s = omega arith in
      sym (parts-some x s a h) ∙ parts_next x s a e h k ∙ rw (parts_none x s (e + 1) (omega arith))

-- the part k is the first of those from k on
pub at_front : (ps : List (List ℕ)) (k : ℕ) → get_or ps k [] ≡ get_or (drop k ps) 0 []
at_front ps k = let e : k + 0 ≡ k = omega arith in sym (rw e at (get_or-drop k ps 0 []))

-- ---- two texts

pub same-short : (s t : List ℕ) → (length s ≡ length t → ⊥) → same s t ≡ false
same-short s t n = same-other s t (λ e. n (ap length e))
