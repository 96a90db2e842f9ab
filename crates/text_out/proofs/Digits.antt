-- The digits of a number, found from the last one on.
use Prim.Native.Nat.{ℕ, zero, suc, ◌+◌, ◌-◌, ◌/◌, ◌%◌, ◌^◌, ◌≤◌, ◌<◌}
use native.Mathlib.Omega.{arith}
use native.Mathlib.Nat.{pow-suc}
use native.Mathlib.Numerals.{sub-one}
use mathlib.Core.Path.{◌≡◌, refl, sym, ◌∙◌}
use mathlib.Core.List.{List, [], ◌∷◌, ◌++◌, append_assoc, append-nil}
use lib.ListN.{length, take, drop, set, drop_of_length-le, length-drop, length-set}
use lib.Seq.{take_all}
use Rattle.decimals.specs.Number.{decimalℕ}
use Rattle.decimals.proofs.Decimals.{decimalℕ-one, decimalℕ-more}

drop-at-set : (l : List ℕ) (k a : ℕ) → k < length l → drop k (set l k a) ≡ a ∷ drop (suc k) l
drop-at-set [] k a h = absurd (omega arith)
drop-at-set (x ∷ l) zero a h = refl
drop-at-set (x ∷ l) (suc k) a h = drop-at-set l k a (omega arith)

-- the digits behind the place k are found; those of `left` come before them
pub record Behind (v : ℕ) (digits : List ℕ) (left k : ℕ) : Type 0 where
  pub found : decimalℕ v ≡ decimalℕ left ++ drop (suc k) digits
  pub room : left < 10 ^ suc k
  pub place : k < 20

pub behind-all : (v : ℕ) (digits : List ℕ) → length digits ≡ 20 → v < 18446744073709551616 → Behind v digits v 19
behind-all v digits h l =
    let most : 10 ^ suc 19 ≡ 100000000000000000000 = refl in
    record {
      found = sym (rw (drop_of_length-le digits {i = 20} (omega (arith, h))) (append-nil (decimalℕ v)));
      room = omega (arith, most);
      place = omega arith;
    }

-- a place is left for each digit
pub place-left : (v : ℕ) (digits : List ℕ) (left k : ℕ) → Behind v digits left k → 10 ≤ left → 1 ≤ k
place-left v digits left zero b h = let ten : 10 ^ suc 0 ≡ 10 = refl in absurd (omega (arith, b.room, ten))
place-left v digits left (suc k) b h = omega arith

pub behind_more : (v : ℕ) (digits : List ℕ) (left k : ℕ) → Behind v digits left k → length digits ≡ 20 → 10 ≤ left
    → Behind v (set digits k (48 + left % 10)) (left / 10) (k - 1)
behind_more v digits left zero b h l = absurd (omega (arith, place-left v digits left zero b l))
behind_more v digits left (suc k) b h l =
    let at = drop-at-set digits (suc k) (48 + left % 10) (omega (arith, b.place, h)) in
    record {
      found = b.found ∙ rw (sub-one, at, decimalℕ-more left l, append_assoc);
      room = rw sub-one (omega (arith, b.room, pow-suc 10 (suc k)));
      place = omega (arith, b.place);
    }

-- all that stands from the place k on
pub behind-none : (v : ℕ) (digits : List ℕ) (left k : ℕ) → Behind v digits left k → length digits ≡ 20 → left < 10
    → take (20 - k) (drop k (set digits k (48 + left))) ≡ decimalℕ v
behind-none v digits left k b h l =
    let all = set digits k (48 + left) in
    let at = drop-at-set digits k (48 + left) (omega (arith, b.place, h)) in
    let is : left % 10 ≡ left = omega arith in
    take_all (20 - k) (drop k all) (omega (arith, length-drop k all, length-set digits k (48 + left))) ∙ at ∙ sym (b.found ∙ rw (decimalℕ-one left l, is))

-- a number of one digit
pub one-digit : (v : ℕ) → v < 10 → decimalℕ v ≡ (48 + v) ∷ []
one-digit v h = let is : v % 10 ≡ v = omega arith in rw is at (decimalℕ-one v h)
