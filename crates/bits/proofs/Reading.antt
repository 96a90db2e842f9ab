-- Reading a number of bits: when it is there, and which it is.
use Prim.Native.Nat.{ℕ, ◌+◌, ◌/◌, ◌^◌, ◌≤◌, ◌<◌}
use mathlib.Core.Path.{◌≡◌, refl, ap, ◌∙◌}
use mathlib.Core.List.{List, ◌++◌}
use mathlib.Core.Bool.{Bool, true, false}
use native.Mathlib.Omega.{arith}
use lib.ListN.{length, take, drop, length-append}
use lib.Seq.{take_at}
use lib.Dec.{leb, ltb}
use borrow.Author.Tests.{le-leb, lt-leb, leb-true, leb-false, lt-ltb, le-ltb, ltb-true, ltb-false}
use Rattle.std.specs.Prelude.{Some, None}
use Rattle.bits.specs.Bits.{bits_of, value_of, bytes_bits}
use Rattle.bits.specs.Number.{number_in, wide_in}
use Rattle.bits.proofs.Numbers.{length-bits_of, value-of-bits, first_below}

-- where there are enough bits
pub number-in : (w : ℕ) (bs : List Bool) → w ≤ length bs → number_in w bs ≡ Some (value_of (take w bs))
unfolding number_in
number-in w bs h = rw (le-leb w (length bs) h) refl

-- where there are too few
pub number-none : (w : ℕ) (bs : List Bool) → length bs < w → number_in w bs ≡ None
unfolding number_in
number-none w bs h = rw (lt-leb w (length bs) h) refl

pub number_fits : (w : ℕ) (bs : List Bool) (v : ℕ) → number_in w bs ≡ Some v → w ≤ length bs
number_fits w bs v e = go (leb w (length bs)) refl
  where
    go : (t : Bool) → leb w (length bs) ≡ t → w ≤ length bs
    go true f = leb-true w (length bs) f
    go false f = let never : ◌≡◌ {A = ℕ} 0 1 = cc (number-none w bs (leb-false w (length bs) f)) in omega arith

pub number-ends : (w : ℕ) (bs : List Bool) → number_in w bs ≡ None → length bs < w
number-ends w bs e = go (leb w (length bs)) refl
  where
    go : (t : Bool) → leb w (length bs) ≡ t → length bs < w
    go true f = let never : ◌≡◌ {A = ℕ} 0 1 = cc (number-in w bs (leb-true w (length bs) f)) in omega arith
    go false f = leb-false w (length bs) f

pub number_is : (w : ℕ) (bs : List Bool) (v : ℕ) → number_in w bs ≡ Some v → v ≡ value_of (take w bs)
number_is w bs v e = cc (number-in w bs (number_fits w bs v e))

pub number-below : (w : ℕ) (bs : List Bool) (v : ℕ) → number_in w bs ≡ Some v → v < 2 ^ w
number-below w bs v e = rw (number_is w bs v e) (first_below w bs (number_fits w bs v e))

-- ---- 56 bits at once

-- where there are eight bytes
pub wide-in : (bytes : List ℕ) (at : ℕ) → at / 8 + 7 < length bytes → wide_in bytes at ≡ Some (value_of (take 56 (drop at (bytes_bits bytes))))
unfolding wide_in
wide-in bytes at h = rw (lt-ltb (at / 8 + 7) (length bytes) h) refl

-- where there are fewer
pub wide-none : (bytes : List ℕ) (at : ℕ) → length bytes ≤ at / 8 + 7 → wide_in bytes at ≡ None
unfolding wide_in
wide-none bytes at h = rw (le-ltb (at / 8 + 7) (length bytes) h) refl

pub wide_fits : (bytes : List ℕ) (at v : ℕ) → wide_in bytes at ≡ Some v → at / 8 + 7 < length bytes
wide_fits bytes at v e = go (ltb (at / 8 + 7) (length bytes)) refl
  where
    go : (t : Bool) → ltb (at / 8 + 7) (length bytes) ≡ t → at / 8 + 7 < length bytes
    go true f = ltb-true (at / 8 + 7) (length bytes) f
    go false f = let never : ◌≡◌ {A = ℕ} 0 1 = cc (wide-none bytes at (ltb-false (at / 8 + 7) (length bytes) f)) in omega arith

pub wide_is : (bytes : List ℕ) (at v : ℕ) → wide_in bytes at ≡ Some v → v ≡ value_of (take 56 (drop at (bytes_bits bytes)))
wide_is bytes at v e = cc (wide-in bytes at (wide_fits bytes at v e))
