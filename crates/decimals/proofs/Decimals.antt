-- A number from 0 on, written in decimal and read back, and read and written again.
use Prim.Native.Nat.{ℕ, zero, suc, ◌+◌, ◌*◌, ◌-◌, ◌/◌, ◌%◌, ◌^◌, ◌<◌, ◌≤◌}
use mathlib.Core.Path.{◌≡◌, refl, sym, ap, ◌∙◌}
use mathlib.Core.List.{List, [], ◌∷◌, ◌++◌, append_assoc, append-nil}
use mathlib.Core.Bool.{Bool, true, false, cond, not, ◌&&◌}
use Rattle.std.specs.Prelude.{None, Some}
use Rattle.std.proofs.lemmas.Option.{none-some}
use native.Mathlib.Nat.{pow-suc}
use native.Mathlib.Omega.{arith}
use lib.ListN.{length, length-append}
use lib.Dec.{leb, ltb, eqb}
use borrow.Author.Tests.{ltb-true, ltb-false, leb-true, lt-ltb, le-ltb, le-leb, eqb-false, not-true, ne_eqb}
use Rattle.text.specs.Parts.{all}
use Rattle.decimals.specs.Number.{is_digit, value_from, is_natural, natural, digits, decimalℕ}
use Rattle.text.proofs.Tests.{and_parts, and_both, in-range, all_first, all_rest, all_append}

-- ---- how a number is written

pub digit-bounds : (b : ℕ) → is_digit b ≡ true → (48 ≤ b) × (b ≤ 57)
digit-bounds b h = in-range 48 b 57 h

digit-is : (d : ℕ) → d < 10 → is_digit (48 + d) ≡ true
digit-is d h = and_both (le-leb 48 (48 + d) (omega arith)) (le-leb (48 + d) 57 (omega arith))

digit-alone : (d : ℕ) → d < 10 → all is_digit ((48 + d) ∷ []) ≡ true
unfolding all
digit-alone d h = and_both (digit-is d h) refl

one-digit : (f n : ℕ) → n < 10 → digits f n ≡ (48 + n) ∷ []
unfolding digits
one-digit zero n h = let e : n % 10 ≡ n = omega arith in rw e
one-digit (suc f) n h = let e : n % 10 ≡ n = omega arith in rw (lt-ltb n 10 h, digits, e)

more-digits : (f n : ℕ) → 10 ≤ n → digits (suc f) n ≡ digits f (n / 10) ++ ((48 + n % 10) ∷ [])
unfolding digits
more-digits f n h = rw (le-ltb n 10 h, digits)

-- any fuel that is enough writes the same
fuel : (f g n : ℕ) → n ≤ f → n ≤ g → digits f n ≡ digits g n
fuel zero g n h k = one-digit zero n (omega arith) ∙ sym (one-digit g n (omega arith))
fuel (suc f) zero n h k = one-digit (suc f) n (omega arith) ∙ sym (one-digit zero n (omega arith))
fuel (suc f) (suc g) n h k = go (ltb n 10) refl (λ e. fuel f g (n / 10) (omega arith) (omega arith))
  where
    go : (b : Bool) → ltb n 10 ≡ b → (10 ≤ n → digits f (n / 10) ≡ digits g (n / 10)) → digits (suc f) n ≡ digits (suc g) n
    go true e r = let l : n < 10 = ltb-true n 10 e in one-digit (suc f) n l ∙ sym (one-digit (suc g) n l)
    go false e r =
        let l : 10 ≤ n = ltb-false n 10 e in
        more-digits f n l ∙ ap (λ s. s ++ ((48 + n % 10) ∷ [])) (r l) ∙ sym (more-digits g n l)

-- a digit more
next-digit : (n d : ℕ) → 0 < n → d < 10 → decimalℕ (n * 10 + d) ≡ decimalℕ n ++ ((48 + d) ∷ [])
next-digit n d h k =
    let q : (n * 10 + d) / 10 ≡ n = omega arith in
    let m : (n * 10 + d) % 10 ≡ d = omega arith in
    fuel (n * 10 + d) (suc (n * 10 + d)) (n * 10 + d) (omega arith) (omega arith)
    ∙ more-digits (n * 10 + d) (n * 10 + d) (omega arith)
    ∙ rw (q, m) (ap (λ s. s ++ ((48 + d) ∷ [])) (fuel (n * 10 + d) n n (omega arith) (omega arith)))

-- the last digit, and those before it
pub decimalℕ-one : (n : ℕ) → n < 10 → decimalℕ n ≡ (48 + n % 10) ∷ []
decimalℕ-one n h = let e : n % 10 ≡ n = omega arith in one-digit n n h ∙ rw e

pub decimalℕ-more : (n : ℕ) → 10 ≤ n → decimalℕ n ≡ decimalℕ (n / 10) ++ ((48 + n % 10) ∷ [])
decimalℕ-more n h =
    let q : n / 10 * 10 + n % 10 ≡ n = omega arith in
    rw q at (next-digit (n / 10) (n % 10) (omega arith) (omega arith))

-- ---- read, then written

-- digits behind a number's digits
digits-behind : (n : ℕ) (s : List ℕ) → 0 < n → all is_digit s ≡ true → decimalℕ (value_from n s) ≡ decimalℕ n ++ s
unfolding value_from
digits-behind n [] h k = sym (append-nil (decimalℕ n))
digits-behind n (b ∷ s) h k =
    let l = digit-bounds b (all_first is_digit b s k) in
    let e : 48 + (b - 48) ≡ b = omega arith in
    digits-behind (n * 10 + (b - 48)) s (omega arith) (all_rest is_digit b s k)
    ∙ ap (λ t. t ++ s) (next-digit n (b - 48) h (omega arith))
    ∙ append_assoc (decimalℕ n) ((48 + (b - 48)) ∷ []) s
    ∙ rw e

digits_same : (s : List ℕ) → is_natural s ≡ true → decimalℕ (value_from 0 s) ≡ s
unfolding is_natural value_from
digits_same [] h = cc
digits_same (b ∷ []) h =
    let l = digit-bounds b h in
    let e : 48 + (0 + (b - 48)) ≡ b = omega arith in
    one-digit (0 + (b - 48)) (0 + (b - 48)) (omega arith) ∙ rw e
digits_same (b ∷ c ∷ s) h =
    let k = and_parts (is_digit b && not (eqb b 48)) (all is_digit (c ∷ s)) h in
    let j = and_parts (is_digit b) (not (eqb b 48)) k.0 in
    let l = digit-bounds b j.0 in
    let z : b ≡ 48 → ⊥ = eqb-false b 48 (not-true (eqb b 48) j.1) in
    let e : 48 + (0 + (b - 48)) ≡ b = omega arith in
    digits-behind (0 + (b - 48)) (c ∷ s) (omega arith) k.1
    ∙ ap (λ t. t ++ c ∷ s) (one-digit (0 + (b - 48)) (0 + (b - 48)) (omega arith))
    ∙ rw e

-- what is read as n is how n is written
pub natural-written : (limit : ℕ) (s : List ℕ) (n : ℕ) → natural limit s ≡ Some n → (decimalℕ n ≡ s) × (n ≤ limit)
unfolding natural
natural-written limit s n h = go (is_natural s && leb (value_from 0 s) limit) refl h
  where
    go : (b : Bool) → (is_natural s && leb (value_from 0 s) limit) ≡ b → cond b (Some (value_from 0 s)) None ≡ Some n
        → (decimalℕ n ≡ s) × (n ≤ limit)
    go true e q =
        let k = and_parts (is_natural s) (leb (value_from 0 s) limit) e in
        let v : value_from 0 s ≡ n = cc in
        (rw (← v) (digits_same s k.0), rw (← v) (leb-true (value_from 0 s) limit k.1))
    go false e q = absurd (none-some n q)

-- ---- written, then read

-- s are the digits of n, with no leading zero
record Spells (n : ℕ) (s : List ℕ) : Type 0 where
  natural : is_natural s ≡ true
  value : value_from 0 s ≡ n

value-behind : (n : ℕ) (s : List ℕ) (b : ℕ) → value_from n (s ++ (b ∷ [])) ≡ value_from n s * 10 + (b - 48)
unfolding value_from
value-behind n [] b = refl
value-behind n (c ∷ s) b = value-behind (n * 10 + (c - 48)) s b

natural-more : (s : List ℕ) (d : ℕ) → is_natural s ≡ true → 0 < value_from 0 s → d < 10 → is_natural (s ++ ((48 + d) ∷ [])) ≡ true
unfolding is_natural value_from
natural-more [] d h k l = cc
natural-more (b ∷ []) d h k l = let z : eqb b 48 ≡ false = ne_eqb b 48 (λ e. omega arith) in rw (h, z) (digit-alone d l)
natural-more (b ∷ c ∷ s) d h k l =
    let j = and_parts (is_digit b && not (eqb b 48)) (all is_digit (c ∷ s)) h in
    and_both j.0 (all_append is_digit (c ∷ s) ((48 + d) ∷ []) j.1 (digit-alone d l))

spells_one : (d : ℕ) → d < 10 → Spells d ((48 + d) ∷ [])
unfolding is_natural value_from
spells_one d h = record { natural = digit-is d h; value = omega arith }

spells-more : {n d : ℕ} {s : List ℕ} → Spells n s → 0 < n → d < 10 → Spells (n * 10 + d) (s ++ ((48 + d) ∷ []))
spells-more {n} {d} {s} w h k =
    record {
      natural = natural-more s d w.natural (omega (arith, w.value)) k;
      value = omega (arith, w.value, value-behind 0 s (48 + d));
    }

spells : (f n : ℕ) → n ≤ f → Spells n (digits f n)
spells zero n h = let l : n < 10 = omega arith in rw one-digit (spells_one n l)
spells (suc f) n h = go (ltb n 10) refl (λ l. spells f (n / 10) (omega arith))
  where
    go : (b : Bool) → ltb n 10 ≡ b → (10 ≤ n → Spells (n / 10) (digits f (n / 10))) → Spells n (digits (suc f) n)
    go true e r = let l : n < 10 = ltb-true n 10 e in rw one-digit (spells_one n l)
    go false e r =
        let l : 10 ≤ n = ltb-false n 10 e in
        let q : n / 10 * 10 + n % 10 ≡ n = omega arith in
        rw more-digits (rw q at (spells-more {d = n % 10} (r l) (omega arith) (omega arith)))

-- what is written for n is read as n
pub natural-read : (limit n : ℕ) → n ≤ limit → natural limit (decimalℕ n) ≡ Some n
unfolding natural
natural-read limit n h = let w = spells n n (omega arith) in rw (w.natural, w.value, le-leb n limit h)

-- ---- the bytes of a written number

-- a number is digits alone
pub natural-digits : (s : List ℕ) → is_natural s ≡ true → all is_digit s ≡ true
unfolding is_natural all
natural-digits [] h = refl
natural-digits (b ∷ []) h = and_both h refl
natural-digits (b ∷ c ∷ s) h =
    let k = and_parts (is_digit b && not (eqb b 48)) (all is_digit (c ∷ s)) h in
    and_both (and_parts (is_digit b) (not (eqb b 48)) k.0).0 k.1

pub decimalℕ-natural : (n : ℕ) → is_natural (decimalℕ n) ≡ true
decimalℕ-natural n = (spells n n (omega arith)).natural

digits-short : (f k n : ℕ) → n < 10 ^ suc k → length (digits f n) ≤ suc k
unfolding digits
digits-short zero k n h = omega arith
digits-short (suc f) zero n h = rw one-digit (omega arith)
digits-short (suc f) (suc k) n h = go (ltb n 10) refl (digits-short f k (n / 10) (omega (arith, pow-suc 10 (suc k))))
  where
    go : (b : Bool) → ltb n 10 ≡ b → length (digits f (n / 10)) ≤ suc k → length (digits (suc f) n) ≤ suc (suc k)
    go true e r = let l : n < 10 = ltb-true n 10 e in rw one-digit (omega arith)
    go false e r = let l : 10 ≤ n = ltb-false n 10 e in rw more-digits (simp length-append (omega arith))

-- k is one less than the digits: k = 9 for numbers below 10 ^ 10
pub decimalℕ-short : (k n : ℕ) → n < 10 ^ suc k → length (decimalℕ n) ≤ suc k
decimalℕ-short k n h = digits-short n k n h
