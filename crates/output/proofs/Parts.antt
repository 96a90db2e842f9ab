-- Writing within one part of a buffer, and the part of what is written that has room.
use Prim.Native.Nat.{ℕ, zero, suc, ◌+◌, ◌-◌, ◌≤◌, min}
use native.Mathlib.Omega.{arith}
use native.Mathlib.Nat.{zero-add, suc-add}
use mathlib.Core.Path.{◌≡◌, refl, sym, ap}
use mathlib.Core.List.{List, [], ◌∷◌, ◌++◌}
use lib.ListN.{length, take, length-append}
use lib.Seq.{take-nil, drop_at}
use Rattle.output.specs.Pour.{pour}
use Rattle.output.proofs.Pour.{pour-none, pour-fits}

module _ {A : Type 0} where
  -- from behind the front part on
  pub pour-behind : (front : List A) (at : ℕ) (new old : List A) → pour (length front + at) new (front ++ old) ≡ front ++ pour at new old
  unfolding pour
  pour-behind [] at new old = rw (zero-add at) refl
  pour-behind (b ∷ front) at new old = rw (suc-add (length front) at) (ap (λ (l : List A). b ∷ l) (pour-behind front at new old))

  -- within the front part
  pub pour-before : (at : ℕ) (new front old : List A) → at + length new ≤ length front → pour at new (front ++ old) ≡ pour at new front ++ old
  unfolding pour
  pour-before zero [] [] old h = pour-none zero old
  pour-before zero (a ∷ new) [] old h = absurd (omega arith)
  pour-before zero [] (b ∷ front) old h = refl
  pour-before zero (a ∷ new) (b ∷ front) old h = ap (λ (l : List A). a ∷ l) (pour-before zero new front old (omega arith))
  pour-before (suc at) new [] old h = absurd (omega arith)
  pour-before (suc at) new (b ∷ front) old h = ap (λ (l : List A). b ∷ l) (pour-before at new front old (omega arith))

  -- in place of a middle part of the same length
  pub pour-middle : (at : ℕ) (front new mid old : List A) → length front ≡ at → length new ≡ length mid
      → pour at new (front ++ (mid ++ old)) ≡ front ++ (new ++ old)
  pour-middle at front new mid old e f =
      let place : length front + 0 ≡ at = omega arith in
      let fits = pour-fits new (mid ++ old) (omega (arith, length-append mid old)) in
      rw (place, fits, drop_at mid old (length new) (sym f)) at (pour-behind front 0 new (mid ++ old))

  -- to write what has room is to write all
  pub pour-room : (at n : ℕ) (new old : List A) → min (length new) (length old - at) ≤ n → pour at (take n new) old ≡ pour at new old
  unfolding pour
  pour-room at n new [] h = refl
  pour-room zero n [] (b ∷ old) h = rw (take-nil n) refl
  pour-room zero zero (a ∷ new) (b ∷ old) h = absurd (omega arith)
  pour-room zero (suc n) (a ∷ new) (b ∷ old) h = ap (λ (l : List A). a ∷ l) (pour-room zero n new old (omega arith))
  pour-room (suc at) n new (b ∷ old) h = ap (λ (l : List A). b ∷ l) (pour-room at n new old (omega arith))
