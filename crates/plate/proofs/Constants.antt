-- Constants in two's complement: written and read.
use Prim.Native.Nat.{ℕ, zero, suc, ◌+◌, ◌-◌, ◌^◌, ◌<◌}
use mathlib.Core.Path.{◌≡◌, refl, sym, subst, ap, ◌∙◌}
use mathlib.Core.List.{[], ◌++◌}
use mathlib.Core.Bool.{Bool, true, false, cond, and-true}
use native.Mathlib.Omega.{arith}
use lib.Dec.{leb, ltb}
use lib.IntN.{ℤ, pos, negsuc}
use lib.Signed.{mag}
use borrow.Author.Tests.{leb-true, le-leb, ltb-true, ltb-false, lt-ltb, le-ltb, not-true}
use Rattle.bits.specs.Bits.{bits_of}
use Rattle.transcript.proofs.Valid.{ConstantOk}
use Rattle.plate.specs.Reading.{Reader, number, return, ◌>>=◌}
use Rattle.plate.specs.Writing.{complement, is_short, constant_bits}
use Rattle.plate.specs.Plate.{signed, short, long, constant_by, constant}
use Rattle.plate.proofs.Readers.{
  Takes,
  Gives,
  takes-number,
  takes-judged,
  takes-then,
  takes-last,
  gives-number,
  gives-judged,
  gives-return,
  gives_then,
  gives_so,
}

abbrev pub signed_number : ℕ → Reader ℤ
signed_number w = number w >>= λ v. return (signed w v)

-- a number of w bits, w not 0, is a constant whose size is below the half of 2 ^ w
module _ (w : ℕ) (halves : 2 ^ w ≡ 2 ^ (w - 1) + 2 ^ (w - 1)) where
  complement-below : (c : ℤ) → mag c < 2 ^ (w - 1) → complement w c < 2 ^ w
  complement-below (pos n) h = omega arith
  complement-below (negsuc n) h = omega arith

  signed-complement : (c : ℤ) → mag c < 2 ^ (w - 1) → signed w (complement w c) ≡ c
  signed-complement (pos n) h = rw (lt-ltb _ _ h)
  signed-complement (negsuc n) h = rw (le-ltb (2 ^ w - 1 - n) (2 ^ (w - 1)) (omega arith)) (ap negsuc (omega arith))

  pub signed-small : (v : ℕ) → v < 2 ^ w → mag (signed w v) < 2 ^ (w - 1)
  signed-small v h = go (ltb v (2 ^ (w - 1))) refl
    where
      go : (b : Bool) → ltb v (2 ^ (w - 1)) ≡ b → mag (cond b (pos v) (negsuc (2 ^ w - 1 - v))) < 2 ^ (w - 1)
      go true e = ltb-true _ _ e
      go false e = omega (arith, ltb-false v (2 ^ (w - 1)) e)

  complement-signed : (v : ℕ) → v < 2 ^ w → complement w (signed w v) ≡ v
  complement-signed v h = go (ltb v (2 ^ (w - 1)))
    where
      go : (b : Bool) → complement w (cond b (pos v) (negsuc (2 ^ w - 1 - v))) ≡ v
      go true = refl
      go false = omega arith

  takes-signed : (c : ℤ) → mag c < 2 ^ (w - 1) → Takes (signed_number w) (bits_of w (complement w c)) c
  takes-signed c h =
      subst (Takes (signed_number w) (bits_of w (complement w c))) (signed-complement c h)
      (takes-last _ (takes-number w _ (complement-below c h)))

  gives-signed : Gives (signed_number w) [] (λ c. bits_of w (complement w c)) (λ c. mag c < 2 ^ (w - 1))
  gives-signed =
      gives_then (gives-number w) (λ v h. gives-return (signed w v) (signed-small v h) (ap (bits_of w) (sym (complement-signed v h))))

short-size : (c : ℤ) → is_short c ≡ leb (mag c) 32767
short-size (pos n) = refl
short-size (negsuc n) = and-true _

pub takes-constant : (c : ℤ) → ConstantOk c → Takes constant (constant_bits c) c
unfolding constant constant_bits
takes-constant c h = go (is_short c) refl
  where
    go : (b : Bool) → is_short c ≡ b
        → Takes constant (cond b (bits_of 2 0 ++ bits_of 16 (complement 16 c)) (bits_of 2 1 ++ bits_of 32 (complement 32 c))) c
    go true e = takes-then _ (takes-judged _ _ (takes-number 2 0 (omega arith)) refl)
        (takes-signed 16 refl c (omega (arith, leb-true (mag c) 32767 (sym (short-size c) ∙ e))))
    go false e = takes-then _ (takes-judged _ _ (takes-number 2 1 (omega arith)) refl)
        (takes-judged _ _ (takes-signed 32 refl c h) (rw e))

pub gives-constant : Gives constant [] constant_bits ConstantOk
unfolding constant constant_bits
gives-constant = gives_then (gives-judged _ _ (gives-number 2)) by
  where
    by : (code : ℕ) → (code < 2 ^ 2) × (ltb code 2 ≡ true) → Gives (constant_by code) (bits_of 2 code) constant_bits ConstantOk
    by zero h = gives_so (gives-signed 16 refl) (λ c hc.
        let short : is_short c ≡ true = short-size c ∙ le-leb (mag c) 32767 (omega arith) in
        (omega arith, rw short))
    by (suc n) h =
        let one : suc n ≡ 1 = omega (arith, ltb-true (suc n) 2 h.1) in
        gives_so (gives-judged _ _ (gives-signed 32 refl)) (λ c hc.
        let long : is_short c ≡ false = not-true _ hc.1 in
        (hc.0, rw (long, one)))
