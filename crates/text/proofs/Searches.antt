-- The first byte x of a text, with many bytes passed at a time.
use Prim.Native.Nat.{ℕ, zero, suc, ◌+◌, ◌-◌, ◌≤◌, ◌<◌}
use native.Mathlib.Omega.{arith}
use native.Mathlib.Nat.{zero-add}
use mathlib.Core.Path.{◌≡◌, refl, sym, ap, ◌∙◌}
use mathlib.Core.List.{List, [], ◌∷◌}
use mathlib.Core.Bool.{Bool, true, false, cond}
use lib.ListN.{length, take, drop, get_or}
use lib.Seq.{drop-drop}
use Rattle.std.proofs.lemmas.List.{drop-take}
use lib.Dec.{eqb, ltb}
use borrow.Author.Tests.{ltb-true, ltb-false, lt-ltb, le-ltb}
use Rattle.text.specs.Parts.{until_byte}
use Rattle.text.proofs.Places.{until-here, until-later}

module _ (x : ℕ) where
  -- n bytes that have no x among them
  pass : (n : ℕ) (t : List ℕ) → n ≤ until_byte x t → until_byte x t ≡ n + until_byte x (drop n t)
  unfolding until_byte
  pass zero t h = sym (zero-add (until_byte x t))
  pass (suc n) [] h = absurd (omega arith)
  pass (suc n) (b ∷ t) h = go (eqb b x) h (pass n t)
    where
      go : (e : Bool) → suc n ≤ cond e 0 (suc (until_byte x t)) → (n ≤ until_byte x t → until_byte x t ≡ n + until_byte x (drop n t))
          → cond e 0 (suc (until_byte x t)) ≡ suc n + until_byte x (drop n t)
      go true k f = absurd (omega arith)
      go false k f = omega (arith, f (omega arith))

  -- an x among the first n bytes is the first of all
  within : (n : ℕ) (t : List ℕ) → until_byte x (take n t) < n → until_byte x t ≡ until_byte x (take n t)
  unfolding until_byte
  within zero t h = absurd (omega arith)
  within (suc n) [] h = refl
  within (suc n) (b ∷ t) h = go (eqb b x) h (within n t)
    where
      go : (e : Bool) → cond e 0 (suc (until_byte x (take n t))) < suc n → (until_byte x (take n t) < n → until_byte x t ≡ until_byte x (take n t))
          → cond e 0 (suc (until_byte x t)) ≡ cond e 0 (suc (until_byte x (take n t)))
      go true k f = refl
      go false k f = ap suc (f (omega arith))

  -- where the first n bytes have no x, all of them stand before the first
  beyond : (n : ℕ) (t : List ℕ) → n ≤ until_byte x (take n t) → n ≤ until_byte x t
  unfolding until_byte
  beyond zero t h = omega arith
  beyond (suc n) [] h = absurd (omega arith)
  beyond (suc n) (b ∷ t) h = go (eqb b x) h (beyond n t)
    where
      go : (e : Bool) → suc n ≤ cond e 0 (suc (until_byte x (take n t))) → (n ≤ until_byte x (take n t) → n ≤ until_byte x t)
          → suc n ≤ cond e 0 (suc (until_byte x t))
      go true k f = absurd (omega arith)
      go false k f = omega (arith, f (omega arith))

  -- the same for the bytes of s from a on to e
  module _ (s : List ℕ) (a e : ℕ) where
    window : a ≤ e → drop a (take e s) ≡ take (e - a) (drop a s)
    window h = let eq : e ≡ a + (e - a) = omega arith in ap (λ n. drop a (take n s)) eq ∙ drop-take a (e - a) s

    pub until-near : a ≤ e → a + until_byte x (drop a (take e s)) < e → a + until_byte x (drop a (take e s)) ≡ a + until_byte x (drop a s)
    until-near h k =
        let w = ap (until_byte x) (window h) in
        let m : until_byte x (take (e - a) (drop a s)) < e - a = omega (arith, w) in
        omega (arith, w, within (e - a) (drop a s) m)

    pub until-far : a ≤ e → e ≤ a + until_byte x (drop a (take e s)) → e + until_byte x (drop e s) ≡ a + until_byte x (drop a s)
    until-far h k =
        let w = ap (until_byte x) (window h) in
        let m : e - a ≤ until_byte x (drop a s) = beyond (e - a) (drop a s) (omega (arith, w)) in
        let p : until_byte x (drop a s) ≡ e - a + until_byte x (drop (e - a) (drop a s)) = pass (e - a) (drop a s) m in
        let eq : a + (e - a) ≡ e = omega arith in
        omega (arith, p, ap (until_byte x) (drop-drop (e - a) a s), ap (λ n. until_byte x (drop n s)) eq)

  module _ (s : List ℕ) (a n : ℕ) where
    pub until-past : ltb (until_byte x (drop a s)) n ≡ false → a + until_byte x (drop a s) ≡ a + n + until_byte x (drop (a + n) s)
    until-past h = omega (arith, rw drop-drop at (pass n (drop a s) (ltb-false (until_byte x (drop a s)) n h)))

    -- whether x is among the first n bytes, with one byte more
    pub among-here : a + n < length s → get_or s (a + n) 0 ≡ x → ltb (until_byte x (drop a s)) (n + 1) ≡ true
    among-here h e = lt-ltb (until_byte x (drop a s)) (n + 1) (go (ltb (until_byte x (drop a s)) n) refl)
      where
        go : (t : Bool) → ltb (until_byte x (drop a s)) n ≡ t → until_byte x (drop a s) < n + 1
        go true k = omega (arith, ltb-true (until_byte x (drop a s)) n k)
        go false k = omega (arith, until-past k, until-here x s (a + n) h e)

    pub among_later : a + n < length s → (get_or s (a + n) 0 ≡ x → ⊥) → ltb (until_byte x (drop a s)) n ≡ ltb (until_byte x (drop a s)) (n + 1)
    among_later h e = go (ltb (until_byte x (drop a s)) n) refl
      where
        go : (t : Bool) → ltb (until_byte x (drop a s)) n ≡ t → t ≡ ltb (until_byte x (drop a s)) (n + 1)
        go true k = sym (lt-ltb (until_byte x (drop a s)) (n + 1) (omega (arith, ltb-true (until_byte x (drop a s)) n k)))
        go false k = sym (le-ltb (until_byte x (drop a s)) (n + 1) (omega (arith, until-past k, until-later x s (a + n) h e)))
