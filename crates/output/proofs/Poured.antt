-- A writing with the place behind it: each by itself, and one writing after the other.
use Prim.Native.Nat.{ℕ, ◌+◌, ◌<◌}
use native.Mathlib.Omega.{arith}
use mathlib.Core.Path.{◌≡◌, ap, ◌∙◌}
use mathlib.Core.List.{List, ◌++◌}
use lib.ListN.{length, length-append}
use Rattle.output.specs.Pour.{up_to, pour, poured}
use Rattle.output.proofs.Pour.{pour-then}

module _ {A : Type 0} where
  pub ended : (at : ℕ) (new old : List A) (x : ℕ) (last : List A) → (x, last) ≡ poured at new old → x ≡ up_to (at + length new)
  unfolding poured
  ended at new old x last e = ap (λ (r : ℕ × List A). r.0) e

  pub stored : (at : ℕ) (new old : List A) (x : ℕ) (last : List A) → (x, last) ≡ poured at new old → last ≡ pour at new old
  unfolding poured
  stored at new old x last e = ap (λ (r : ℕ × List A). r.1) e

  -- two writings, the second where the first ended, are one: in a buffer of any length, if that place is below the greatest number
  pub then-counted : (at : ℕ) (a b old : List A) (x : ℕ) (mid : List A) (last : ℕ × List A) → (x, mid) ≡ poured at a old
      → last ≡ poured x b mid → x < 18446744073709551615 → last ≡ poured at (a ++ b) old
  unfolding poured
  then-counted at a b old x mid last e f h =
      let place : x ≡ at + length a = omega (arith, ended at a old x mid e) in
      let counted : up_to (x + length b) ≡ up_to (at + length (a ++ b)) = omega (arith, length-append a b) in
      let whole : pour x b mid ≡ pour at (a ++ b) old = rw (place, stored at a old x mid e) (pour-then at a b old) in
      f ∙ λ i. (counted i, whole i)
