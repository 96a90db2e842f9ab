-- The bits of a number in parts: the high and the low bits, and some bits between them, as a number and replaced.
use Prim.Native.Nat.{ℕ, zero, suc, ◌+◌, ◌-◌, ◌*◌, ◌/◌, ◌%◌, ◌^◌, ◌≤◌, ◌<◌}
use mathlib.Core.Path.{◌≡◌, refl, sym, ◌∙◌}
use mathlib.Core.List.{List, [], ◌∷◌, ◌++◌, append_assoc}
use mathlib.Core.Bool.{Bool}
use native.Mathlib.Nat.{zero-add, suc-add, add_comm, add_assoc, zero-mul, add-mul, mul_assoc, mod-mod, mod-lt, add-sub_of_le, le-mul_of_pos_right}
use native.Mathlib.Omega.{arith}
use lib.ListN.{length, take, drop, length-append}
use lib.Seq.{take_at, drop_at}
use lib.Arith.{digits_lt}
use lib.Pow.{pow-add, pow_pos, shr-shr, shr_lt, high, low}
use Rattle.output.specs.Pour.{pour}
use Rattle.output.proofs.Parts.{pour-middle}
use Rattle.bits.specs.Bits.{bit, bits_of, value_of}
use Rattle.bits.proofs.Numbers.{length-bits_of, value-of-low-bits, same-value}

pub value-append : (xs ys : List Bool) → value_of (xs ++ ys) ≡ value_of xs * 2 ^ length ys + value_of ys
unfolding value_of
value-append [] ys = rw (zero-mul (2 ^ length ys), zero-add (value_of ys)) refl
value-append (x ∷ xs) ys =
    rw (length-append xs ys, pow-add 2 (length xs) (length ys), value-append xs ys, add-mul (bit x * 2 ^ length xs) (value_of xs) (2 ^ length ys))
    (rw (mul_assoc (bit x) (2 ^ length xs) (2 ^ length ys)) (sym (add_assoc _ _ _)))

-- the h bits above the lowest l, then those
pub bits-split : (h l v : ℕ) → bits_of (h + l) v ≡ bits_of h (v / 2 ^ l) ++ bits_of l v
unfolding bits_of
bits-split zero l v = rw (zero-add l) refl
bits-split (suc h) l v = rw (suc-add h l, shr-shr v l h, add_comm l h, bits-split h l v) refl

-- the first t of n bits, then the others
pub bits-cut : (n t v : ℕ) → t ≤ n → bits_of n v ≡ bits_of t (v / 2 ^ (n - t)) ++ bits_of (n - t) v
bits-cut n t v h = rw (add-sub_of_le h) at (bits-split t (n - t) v)

pub first-bits : (n t v : ℕ) → t ≤ n → take t (bits_of n v) ≡ bits_of t (v / 2 ^ (n - t))
first-bits n t v h = rw (bits-cut n t v h) (take_at _ _ t (length-bits_of t _))

-- higher bits of the number do not count
pub low_bits : (w v : ℕ) → bits_of w (v % 2 ^ w) ≡ bits_of w v
low_bits w v =
    same-value _ _ (length-bits_of w _ ∙ sym (length-bits_of w v))
    (value-of-low-bits w (v % 2 ^ w) ∙ mod-mod v (2 ^ w) ∙ sym (value-of-low-bits w v))

-- a number of two parts has the bits of both
bits-join : (h l hi lo : ℕ) → lo < 2 ^ l → bits_of (h + l) (hi * 2 ^ l + lo) ≡ bits_of h hi ++ bits_of l lo
bits-join h l hi lo small =
    rw (bits-split h l (hi * 2 ^ l + lo), high hi l small, ← low_bits l (hi * 2 ^ l + lo), low hi l small) refl

-- the second of which may be larger, for only its lowest bits count
pub bits-behind : (h l hi lo : ℕ) → bits_of (h + l) (hi * 2 ^ l + lo % 2 ^ l) ≡ bits_of h hi ++ bits_of l lo
bits-behind h l hi lo = rw (bits-join h l hi (lo % 2 ^ l) (mod-lt lo (pow_pos l)), low_bits l lo) refl

-- h bits, then t bits, then the lowest l
three-parts : (h t l v : ℕ) → bits_of (h + t + l) v ≡ bits_of h (v / 2 ^ l / 2 ^ t) ++ (bits_of t (v / 2 ^ l) ++ bits_of l v)
three-parts h t l v = rw (bits-split (h + t) l v, bits-split h t (v / 2 ^ l), append_assoc) refl

-- the t bits in the middle, as a number
pub field-value : (h t l v : ℕ) → value_of (take t (drop h (bits_of (h + t + l) v))) ≡ v / 2 ^ l % 2 ^ t
field-value h t l v =
    let top = bits_of h (v / 2 ^ l / 2 ^ t) in
    let mid = bits_of t (v / 2 ^ l) in
    rw (three-parts h t l v, drop_at top (mid ++ bits_of l v) h (length-bits_of h _), take_at mid (bits_of l v) t (length-bits_of t _))
    (value-of-low-bits t (v / 2 ^ l))

-- the number with the lowest t bits of x in place of the t bits above its lowest l
abbrev replaced : ℕ → ℕ → ℕ → ℕ → ℕ
replaced t l v x = (v / 2 ^ l / 2 ^ t * 2 ^ t + x % 2 ^ t) * 2 ^ l + v % 2 ^ l

field-replaced : (h t l v x : ℕ) → bits_of (h + t + l) (replaced t l v x) ≡ pour h (bits_of t x) (bits_of (h + t + l) v)
field-replaced h t l v x =
    let top = v / 2 ^ l / 2 ^ t in
    let upper = bits-behind h t top x in
    let same = length-bits_of t x ∙ sym (length-bits_of t (v / 2 ^ l)) in
    let middle = pour-middle h (bits_of h top) (bits_of t x) (bits_of t (v / 2 ^ l)) (bits_of l v) (length-bits_of h _) same in
    rw (bits-behind (h + t) l (top * 2 ^ t + x % 2 ^ t) v, upper, append_assoc)
    (rw (three-parts h t l v) (sym middle))

replaced-below : (h t l v x : ℕ) → v < 2 ^ (h + t + l) → replaced t l v x < 2 ^ (h + t + l)
replaced-below h t l v x below =
    let top : v / 2 ^ l / 2 ^ t < 2 ^ h = shr_lt h t (shr_lt (h + t) l below) in
    rw (pow-add 2 (h + t) l, pow-add 2 h t) (digits_lt (digits_lt top (mod-lt x (pow_pos t))) (mod-lt v (pow_pos l)))

-- the same for `size` bits of n, from the bit `bit` on, with the powers of two as numbers at hand
module _ (n bit size unit values : ℕ) (fits : bit + size ≤ n) (eu : unit ≡ 2 ^ (n - bit - size)) (ev : values ≡ 2 ^ size) where
  parts : bit + size + (n - bit - size) ≡ n
  parts = omega arith

  pub field_at : (b : ℕ) → b / unit % values ≡ value_of (take size (drop bit (bits_of n b)))
  field_at b = rw (eu, ev, ← field-value bit size (n - bit - size) b, parts) refl

  pub field-set : (b x : ℕ) → bits_of n ((b / unit / values * values + x % values) * unit + b % unit) ≡ pour bit (bits_of size x) (bits_of n b)
  field-set b x = rw (eu, ev) (rw parts at (field-replaced bit size (n - bit - size) b x))

  -- the new number has n bits, and its part above the lowest bits is not larger
  pub field_below : (b x : ℕ) → b < 2 ^ n
      → (b / unit / values * values + x % values ≤ (b / unit / values * values + x % values) * unit)
      × ((b / unit / values * values + x % values) * unit + b % unit < 2 ^ n)
  field_below b x h =
      rw (eu, ev)
      (le-mul_of_pos_right _ (pow_pos (n - bit - size)), rw parts at (replaced-below bit size (n - bit - size) b x (rw parts h)))
