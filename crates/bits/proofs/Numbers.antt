-- A number below 2 ^ w and its w bits determine each other.
use Prim.Native.Nat.{ℕ, zero, suc, ◌%◌, ◌^◌, ◌≤◌, ◌<◌}
use mathlib.Core.Path.{◌≡◌, refl, sym, ap, ◌∙◌}
use mathlib.Core.List.{List, [], ◌∷◌}
use mathlib.Core.Bool.{Bool, true, false}
use native.Mathlib.Nat.{mod-one, mod-eq_of_lt, pow-succ'}
use native.Mathlib.Numerals.{one-add}
use native.Mathlib.Omega.{arith}
use lib.ListN.{length, take}
use lib.Seq.{length-take-le}
use lib.Pow.{mod-pow-add}
use borrow.Author.Tests.{eqb-true, eqb-false}
use Rattle.bits.specs.Bits.{odd, bit, bits_of, value_of}

pub length-bits_of : (w v : ℕ) → length (bits_of w v) ≡ w
unfolding bits_of
length-bits_of zero v = refl
length-bits_of (suc w) v = ap suc (length-bits_of w v)

bit-odd : (n : ℕ) → bit (odd n) ≡ n % 2
bit-odd n = go (odd n) refl
  where
    go : (b : Bool) → odd n ≡ b → bit b ≡ n % 2
    go true e = sym (eqb-true _ _ e)
    go false e = let other : n % 2 ≡ 1 → ⊥ = eqb-false _ _ e in omega arith

pub value-of-low-bits : (w v : ℕ) → value_of (bits_of w v) ≡ v % 2 ^ w
unfolding bits_of value_of
value-of-low-bits zero v = sym (mod-one v)
value-of-low-bits (suc w) v = rw (bit-odd, length-bits_of w v, value-of-low-bits w v, ← one-add w, mod-pow-add v 1 w)

pub value-of-bits : (w v : ℕ) → v < 2 ^ w → value_of (bits_of w v) ≡ v
value-of-bits w v h = value-of-low-bits w v ∙ mod-eq_of_lt h

pub value-below : (bs : List Bool) → value_of bs < 2 ^ length bs
unfolding value_of
value-below [] = omega arith
value-below (true ∷ bs) = omega (arith, value-below bs, pow-succ' 2 (length bs))
value-below (false ∷ bs) = omega (arith, value-below bs, pow-succ' 2 (length bs))

-- bits of one length that are one number are the same
pub same-value : (xs ys : List Bool) → length xs ≡ length ys → value_of xs ≡ value_of ys → xs ≡ ys
unfolding value_of
same-value [] [] l e = refl
same-value [] (y ∷ ys) l e = absurd (omega arith)
same-value (x ∷ xs) [] l e = absurd (omega arith)
same-value (x ∷ xs) (y ∷ ys) l e = go (same-value xs ys shorter) x y e
  where
    shorter : length xs ≡ length ys
    shorter = omega arith

    go : (value_of xs ≡ value_of ys → xs ≡ ys) → (c d : Bool) → value_of (c ∷ xs) ≡ value_of (d ∷ ys) → c ∷ xs ≡ d ∷ ys
    go same true true h = ap (λ l. true ∷ l) (same (omega (arith, ap (λ n. 2 ^ n) shorter)))
    go same true false h = absurd (omega (arith, value-below ys, ap (λ n. 2 ^ n) shorter))
    go same false true h = absurd (omega (arith, value-below xs, ap (λ n. 2 ^ n) shorter))
    go same false false h = ap (λ l. false ∷ l) (same (omega arith))

pub bits_of_value : (bs : List Bool) → bits_of (length bs) (value_of bs) ≡ bs
bits_of_value bs =
    same-value (bits_of (length bs) (value_of bs)) bs (length-bits_of _ _) (value-of-bits _ _ (value-below bs))

-- the first w bits, read as a number and written again
pub bits-of-first : (w : ℕ) (bs : List Bool) → w ≤ length bs → bits_of w (value_of (take w bs)) ≡ take w bs
bits-of-first w bs h = rw length-take-le at (bits_of_value (take w bs))

pub first_below : (w : ℕ) (bs : List Bool) → w ≤ length bs → value_of (take w bs) < 2 ^ w
first_below w bs h = rw length-take-le at (value-below (take w bs))
