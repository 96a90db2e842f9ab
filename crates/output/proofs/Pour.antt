-- Laws of writing: one writing after the other is one writing, and a writing that fits is laid over the buffer's front.
use Prim.Native.Nat.{ℕ, zero, suc, ◌+◌, ◌≤◌, ◌<◌}
use native.Mathlib.Omega.{arith}
use native.Mathlib.Nat.{zero-add, suc-add}
use native.Mathlib.Numerals.{add-one}
use mathlib.Core.Path.{◌≡◌, refl, sym, ◌∙◌, ap}
use mathlib.Core.List.{List, [], ◌∷◌, ◌++◌}
use mathlib.Core.Bool.{Bool, true, false}
use lib.Dec.{leb}
use borrow.Author.Tests.{leb-true, leb-false}
use lib.ListN.{length, take, drop, get_or, set, length-append}
use lib.Seq.{length-take-le, take-suc}
use Rattle.output.specs.Pour.{up_to, pour, poured}

module _ {A : Type 0} where
  pub pour-length : (at : ℕ) (new old : List A) → length (pour at new old) ≡ length old
  unfolding pour
  pour-length at new [] = refl
  pour-length zero [] (b ∷ old) = refl
  pour-length zero (a ∷ new) (b ∷ old) = ap suc (pour-length zero new old)
  pour-length (suc at) new (b ∷ old) = ap suc (pour-length at new old)

  -- nothing written
  pub pour-none : (at : ℕ) (old : List A) → pour at [] old ≡ old
  unfolding pour
  pour-none at [] = refl
  pour-none zero (b ∷ old) = refl
  pour-none (suc at) (b ∷ old) = ap (λ (l : List A). b ∷ l) (pour-none at old)

  -- behind the buffer's end
  pub pour-past : (at : ℕ) (new old : List A) → length old ≤ at → pour at new old ≡ old
  unfolding pour
  pour-past at new [] h = refl
  pour-past zero new (b ∷ old) h = absurd (omega arith)
  pour-past (suc at) new (b ∷ old) h = ap (λ (l : List A). b ∷ l) (pour-past at new old (omega arith))

  -- one element
  pub pour-one : (at : ℕ) (a : A) (old : List A) → pour at (a ∷ []) old ≡ set old at a
  unfolding pour
  pour-one at a [] = refl
  pour-one zero a (b ∷ old) = ap (λ (l : List A). a ∷ l) (pour-none zero old)
  pour-one (suc at) a (b ∷ old) = ap (λ (l : List A). b ∷ l) (pour-one at a old)

  -- one writing after the other, with no condition on room
  pub pour-then : (at : ℕ) (a b old : List A) → pour (at + length a) b (pour at a old) ≡ pour at (a ++ b) old
  unfolding pour
  pour-then at a b [] = refl
  pour-then zero [] b (x ∷ old) = rw (zero-add 0) refl
  pour-then zero (y ∷ a) b (x ∷ old) =
      rw (zero-add (suc (length a))) (ap (λ (l : List A). y ∷ l) (rw (zero-add (length a)) at (pour-then zero a b old)))
  pour-then (suc at) a b (x ∷ old) = rw (suc-add at (length a)) (ap (λ (l : List A). x ∷ l) (pour-then at a b old))

  -- one element more of what is written
  pub pour-more : (at i : ℕ) (new old : List A) (d : A) → i < length new → pour at (take (i + 1) new) old ≡ set (pour at (take i new) old) (at + i) (get_or new i d)
  pour-more at i new old d h =
      let long : length (take i new) ≡ i = length-take-le i new (omega arith) in
      rw (add-one, take-suc new i d h, ← pour-then at (take i new) (get_or new i d ∷ []) old, pour-one, long)

  -- what fits stands at the front, and the rest stays
  pub pour-fits : (new old : List A) → length new ≤ length old → pour 0 new old ≡ new ++ drop (length new) old
  unfolding pour
  pour-fits [] [] h = refl
  pour-fits (a ∷ new) [] h = absurd (omega arith)
  pour-fits [] (b ∷ old) h = refl
  pour-fits (a ∷ new) (b ∷ old) h = ap (λ (l : List A). a ∷ l) (pour-fits new old (omega arith))

  -- a place that stopped counting is behind the end of every buffer
  pour-up_to : (n : ℕ) (new old : List A) → length old < 9223372036854775808 → pour (up_to n) new old ≡ pour n new old
  pour-up_to n new old h = go (leb n 18446744073709551615) refl
    where
      go : (v : Bool) → leb n 18446744073709551615 ≡ v → pour (up_to n) new old ≡ pour n new old
      go true v =
          let l = leb-true n 18446744073709551615 v in
          let e : up_to n ≡ n = omega arith in
          ap (λ (k : ℕ). pour k new old) e
      go false v =
          let l = leb-false n 18446744073709551615 v in
          pour-past (up_to n) new old (omega arith) ∙ sym (pour-past n new old (omega arith))

  -- two writings, the second where the first ended, are one
  pub then : (at : ℕ) (a b old : List A) (x : ℕ) (mid : List A) (last : ℕ × List A) → (x, mid) ≡ poured at a old → last ≡ poured x b mid
      → length old < 9223372036854775808 → last ≡ poured at (a ++ b) old
  unfolding poured
  then at a b old x mid last e f h =
      let p : x ≡ up_to (at + length a) = ap (λ (r : ℕ × List A). r.0) e in
      let q : mid ≡ pour at a old = ap (λ (r : ℕ × List A). r.1) e in
      let k : up_to (up_to (at + length a) + length b) ≡ up_to (at + length (a ++ b)) = omega (arith, length-append a b) in
      let l : length (pour at a old) < 9223372036854775808 = omega (arith, pour-length at a old) in
      let m : pour (up_to (at + length a)) b (pour at a old) ≡ pour at (a ++ b) old =
      pour-up_to (at + length a) b (pour at a old) l ∙ pour-then at a b old
      in
      f ∙ ap (λ (r : ℕ × List A). poured r.0 b r.1) {x = (x, mid)} {y = (up_to (at + length a), pour at a old)} e ∙ λ i. (k i, m i)

  -- nothing written
  pub none : (at : ℕ) (old : List A) → at ≤ 18446744073709551615 → (at, old) ≡ poured at [] old
  unfolding poured
  none at old h =
      let k : at ≡ up_to (at + 0) = omega arith in
      λ i. (k i, sym (pour-none at old) i)

  -- the place and the buffer, each by itself
  pub both : (at : ℕ) (new old : List A) (x : ℕ) (last : List A) → x ≡ up_to (at + length new) → last ≡ pour at new old → (x, last) ≡ poured at new old
  unfolding poured
  both at new old x last e f = rw (e, f)

  -- one element written, where there is room
  pub one : (at : ℕ) (a : A) (old : List A) (x : ℕ) (new : List A) → x ≡ up_to (at + 1) → new ≡ set old at a → (x, new) ≡ poured at (a ∷ []) old
  unfolding poured
  one at a old x new e f = λ i. (e i, (f ∙ sym (pour-one at a old)) i)

  -- the buffer keeps its length
  pub kept : (at : ℕ) (new old : List A) (x : ℕ) (last : List A) → (x, last) ≡ poured at new old → length last ≡ length old
  unfolding poured
  kept at new old x last e = ap (λ (r : ℕ × List A). length r.1) e ∙ pour-length at new old
