-- The definitions of specs/Parts.antt are words of the library, in which its iterators and its `==` say what they answer.
use Prim.Native.Nat.{ℕ, suc, ◌+◌}
use native.Mathlib.Omega.{arith}
use mathlib.Core.Path.{◌≡◌, refl, ap}
use mathlib.Core.List.{List, [], ◌∷◌}
use mathlib.Core.Bool.{Bool, true, false, cond, not, ◌&&◌}
use lib.Dec.{eqb, ltb}
use Rattle.std.specs.List.{list_all, position, position_or_len, slice_split, onto_first}
use Rattle.std.specs.Option.{unwrap_or}
use Rattle.std.specs.Prelude.{Option, Some, None}
use borrow.Author.Tests.{ltb-false}
use Rattle.std.proofs.lemmas.List.Sums.{prefix_len-le-length}
use lib.ListN.{length}
use Rattle.std.specs.Str.{bytes_eq}
use Rattle.std.proofs.lemmas.List.Recursion.{is_position_or_len}
use Rattle.text.specs.Parts.{until_byte, same, all, split, on_first}

module _ {A : Type 0} (p : A → Bool) where
  pub all_is : (s : List A) → all p s ≡ list_all p s
  unfolding all
  all_is [] = refl
  all_is (a ∷ s) = ap (λ b. p a && b) (all_is s)

until-first : (x : ℕ) (s : List ℕ) → until_byte x s ≡ position_or_len (λ b. eqb b x) s
unfolding until_byte
until-first x = is_position_or_len (until_byte x) (λ b. eqb b x) refl (λ b s. let e : suc (until_byte x s) ≡ 1 + until_byte x s = omega arith in ap (cond (eqb b x) 0) e)

-- the place of the first x, or the length where there is none
pub until_is : (x : ℕ) (s : List ℕ) (r : Option ℕ) → r ≡ position (λ b. eqb b x) s → until_byte x s ≡ unwrap_or r (length s)
until_is x s r e = rw (e, until-first x s) (go (ltb (position_or_len (λ b. eqb b x) s) (length s)) refl)
  where
    go : (v : Bool) → ltb (position_or_len (λ b. eqb b x) s) (length s) ≡ v
        → position_or_len (λ b. eqb b x) s ≡ unwrap_or (cond v (Some (position_or_len (λ b. eqb b x) s)) None) (length s)
    go true h = refl
    go false h = omega (arith, ltb-false _ _ h, prefix_len-le-length (λ b. not (eqb b x)) s)

pub same_is : (s t : List ℕ) → same s t ≡ bytes_eq s t
unfolding same
same_is [] [] = refl
same_is [] (b ∷ t) = refl
same_is (a ∷ s) [] = refl
same_is (a ∷ s) (b ∷ t) = ap (λ c. eqb a b && c) (same_is s t)

pub split_is : (x : ℕ) (s : List ℕ) → split x s ≡ slice_split (λ b. eqb b x) s
unfolding split
split_is x [] = refl
split_is x (b ∷ s) = rw (split_is x s) (ap (cond (eqb b x) ([] ∷ slice_split (λ a. eqb a x) s)) (first (slice_split (λ a. eqb a x) s)))
  where
    first : (ps : List (List ℕ)) → on_first b ps ≡ onto_first b ps
    first [] = refl
    first (p ∷ ps) = refl
