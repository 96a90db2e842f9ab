-- What is written into the lent tail of a buffer is written into the buffer.
use Prim.Native.Nat.{ℕ, zero, suc, ◌+◌, ◌-◌, ◌≤◌, min}
use native.Mathlib.Omega.{arith}
use mathlib.Core.Path.{◌≡◌, refl, sym, ◌∙◌, ap}
use mathlib.Core.List.{List, [], ◌∷◌, ◌++◌, append-nil}
use mathlib.Core.Bool.{Bool, true, false}
use lib.Dec.{leb}
use lib.ListN.{length, take, drop, length-drop, drop_of_length-le}
use lib.Seq.{take_all, length-take-le}
use borrow.Author.Tests.{leb-true, leb-false}
use Rattle.output.specs.Pour.{up_to, pour, poured}
use Rattle.output.proofs.Pour.{pour-past, pour-fits}
use Rattle.output.proofs.Parts.{pour-room}

module _ {A : Type 0} where
  -- what stands before the place stays
  pour-front : (at : ℕ) (new old : List A) → take at old ++ pour 0 new (drop at old) ≡ pour at new old
  unfolding pour
  pour-front zero new [] = refl
  pour-front (suc at) new [] = refl
  pour-front zero new (b ∷ old) = refl
  pour-front (suc at) new (b ∷ old) = ap (λ (l : List A). b ∷ l) (pour-front at new old)

  -- the part that has room stands at its place, between what stays
  pub pour-part : (at n : ℕ) (new old : List A) → at ≤ length old → n ≡ min (length new) (length old - at)
      → take at old ++ (take n new ++ drop n (drop at old)) ≡ pour at new old
  pour-part at n new old h e =
      let long : length (take n new) ≡ n = length-take-le n new (omega arith) in
      let fits = pour-fits (take n new) (drop at old) (omega (arith, length-drop at old)) in
      let front = pour-front at (take n new) old in
      rw long at (rw fits at front) ∙ pour-room at n new old (omega arith)

  -- from the place on, or from the buffer's end where the place is past it
  pour-from : (at from : ℕ) (new old : List A) → from ≡ min at (length old) → take from old ++ pour 0 new (drop from old) ≡ pour at new old
  pour-from at from new old e = go (leb at (length old)) refl
    where
      go : (v : Bool) → leb at (length old) ≡ v → take from old ++ pour 0 new (drop from old) ≡ pour at new old
      go true v =
          let l = leb-true at (length old) v in
          let k : from ≡ at = omega arith in
          rw k (pour-front at new old)
      go false v =
          let l = leb-false at (length old) v in
          pour-front from new old ∙ pour-past from new old (omega arith) ∙ sym (pour-past at new old (omega arith))

  -- the tail is lent from the place on, and comes back with n elements written
  pub in_tail : (at from : ℕ) (new old last : List A) (n end : ℕ) → from ≡ min at (length old)
      → (n, last) ≡ poured 0 new (take (length old - from) (drop from old)) → end ≡ up_to (at + n)
      → (end, take from old ++ (last ++ drop (length old - from) (drop from old))) ≡ poured at new old
  unfolding poured
  in_tail at from new old last n end e f g =
      let whole : take (length old - from) (drop from old) ≡ drop from old = take_all (length old - from) (drop from old) (omega (arith, length-drop from old)) in
      let rest : drop (length old - from) (drop from old) ≡ [] = drop_of_length-le (drop from old) {i = length old - from} (omega (arith, length-drop from old)) in
      let c : n ≡ up_to (0 + length new) = ap (λ (r : ℕ × List A). r.0) f in
      let k : end ≡ up_to (at + length new) = omega arith in
      let l : last ≡ pour 0 new (drop from old) = ap (λ (r : ℕ × List A). r.1) f ∙ ap (pour 0 new) whole in
      let m : take from old ++ (last ++ drop (length old - from) (drop from old)) ≡ pour at new old =
      rw (rest, append-nil last, l) (pour-from at from new old e)
      in
      λ i. (k i, m i)
