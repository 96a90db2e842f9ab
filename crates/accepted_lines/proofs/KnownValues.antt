-- The bytes of a register, of an operator and of a number that are known to be right.
use Prim.Native.Nat.{ℕ, ◌+◌, ◌*◌, ◌-◌, ◌/◌, ◌%◌, ◌≤◌, ◌<◌}
use native.Mathlib.Omega.{arith}
use mathlib.Core.Path.{◌≡◌, refl, sym, ap, ◌∙◌}
use mathlib.Core.List.{List, [], ◌∷◌, ◌++◌}
use mathlib.Core.Bool.{Bool, true, false, cond}
use Rattle.std.specs.Prelude.{Option, Some}
use lib.ListN.{length, take, drop, get_or, length-drop}
use lib.Seq.{length-take-le, get_or-take, get_or-drop}
use lib.Dec.{eqb, ltb}
use borrow.Author.Tests.{ltb-true, ltb-false, ne_eqb}
use Rattle.text.specs.Quoted.{bytes}
use Rattle.text.specs.Parts.{comma, parts_from, same, all}
use Rattle.decimals.specs.Number.{register, is_digit, value_from, decimalℕ}
use Rattle.text.proofs.Tests.{same-equal, all_first, all_rest}
use Rattle.decimals.proofs.Decimals.{digit-bounds, natural-written, decimalℕ-one, decimalℕ-more}
use Rattle.transcript.specs.declared.Op.{Op}
use Rattle.transcript.specs.declared.Op.TheVariants.{Eq, Ne, Lt, Le, Gt, Ge}
use Rattle.lines.specs.Line.{operator}
use Rattle.lines.proofs.FieldPlaces.{fields-there}
use Rattle.accepted_lines.proofs.KnownFields.{First, first, byte-first, byte-rest}

-- fields are there where their number is not 0
some-there : (s : List ℕ) (a : ℕ) → 2 ≤ length (parts_from comma a s) → a ≤ length s
some-there s a h = fields-there s a (λ e. omega arith)

-- ---- a register

-- one digit and a comma, or two digits
pub record RegisterAt (s : List ℕ) (a : ℕ) (fs : List (List ℕ)) (n : ℕ) : Type 0 where
  pub there : a + 1 < length s
  pub low : 48 ≤ get_or s a 0
  pub single : get_or s (a + 1) 0 ≡ comma → (n ≡ get_or s a 0 - 48) × (parts_from comma (a + 2) s ≡ drop 1 fs)
  pub double : (get_or s (a + 1) 0 ≡ comma → ⊥)
      → (48 ≤ get_or s (a + 1) 0) × (n ≡ (get_or s a 0 - 48) * 10 + (get_or s (a + 1) 0 - 48)) × (parts_from comma (a + 3) s ≡ drop 1 fs)

module _ (s : List ℕ) (a : ℕ) (fs : List (List ℕ)) (n : ℕ) (f : First s a fs) (h : 2 ≤ length fs) where
  one-digit : n < 10 → get_or fs 0 [] ≡ (48 + n % 10) ∷ [] → RegisterAt s a fs n
  one-digit k e =
      let size : f.size ≡ 1 = sym f.long ∙ ap length e in
      let z : a + 0 ≡ a = omega arith in
      let x : a + 1 + 1 ≡ a + 2 = omega arith in
      let b : 48 + n % 10 ≡ get_or s a 0 = ap (λ l. get_or l 0 0) (sym e) ∙ rw z at (f.byte 0 (omega arith)) in
      let m = rw size at (f.more h) in
      let r = rw (size, x) at f.next in
      record { there = m.0; low = omega arith; single = λ _. (omega arith, r); double = λ d. absurd (d m.1) }

  two_digits : 10 ≤ n → n ≤ 31 → get_or fs 0 [] ≡ (48 + n / 10 % 10) ∷ (48 + n % 10) ∷ [] → RegisterAt s a fs n
  two_digits k l e =
      let size : f.size ≡ 2 = sym f.long ∙ ap length e in
      let z : a + 0 ≡ a = omega arith in
      let x : a + 2 + 1 ≡ a + 3 = omega arith in
      let b : 48 + n / 10 % 10 ≡ get_or s a 0 = ap (λ l. get_or l 0 0) (sym e) ∙ rw z at (f.byte 0 (omega arith)) in
      let c : 48 + n % 10 ≡ get_or s (a + 1) 0 = ap (λ l. get_or l 1 0) (sym e) ∙ f.byte 1 (omega arith) in
      let m = rw size at (f.more h) in
      let r = rw (size, x) at f.next in
      record { there = omega arith; low = omega arith; single = λ d. absurd (omega arith); double = λ d. (omega arith, omega arith, r) }

  register-at : register (get_or fs 0 []) ≡ Some n → RegisterAt s a fs n
  register-at e = go (ltb n 10) refl (natural-written 31 (get_or fs 0 []) n e)
    where
      go : (t : Bool) → ltb n 10 ≡ t → (decimalℕ n ≡ get_or fs 0 []) × (n ≤ 31) → RegisterAt s a fs n
      go true t (w, l) = one-digit (ltb-true n 10 t) (sym w ∙ decimalℕ-one n (ltb-true n 10 t))
      go false t (w, l) =
          let k : 10 ≤ n = ltb-false n 10 t in
          two_digits k l (sym w ∙ decimalℕ-more n k ∙ ap (λ l. l ++ ((48 + n % 10) ∷ [])) (decimalℕ-one (n / 10) (omega arith)))

pub known-register : (s : List ℕ) (a n : ℕ) → register (get_or (parts_from comma a s) 0 []) ≡ Some n → 2 ≤ length (parts_from comma a s)
    → RegisterAt s a (parts_from comma a s) n
known-register s a n e h = register-at s a (parts_from comma a s) n (first s a (some-there s a h)) h e

-- a field behind it begins in the line or at its end
pub field-behind : (s : List ℕ) (a r : ℕ) → 2 ≤ length (parts_from comma a s) → parts_from comma r s ≡ drop 1 (parts_from comma a s) → r ≤ length s
field-behind s a r h e = fields-there s r (λ z. omega (arith, ap length e, length-drop 1 (parts_from comma a s)))

-- ---- an operator

-- by its first letter, and by whether the second is a t
abbrev pub op_by : ℕ → Bool → Op
op_by b t = cond (eqb b 101) Eq (cond (eqb b 110) Ne (cond (eqb b 108) (cond t Lt Le) (cond t Gt Ge)))

abbrev TwoLetters : List ℕ → Op → Type 0
TwoLetters o op = (op_by (get_or o 0 0) (eqb (get_or o 1 0) 116) ≡ op) × (length o ≡ 2)

operator-letters : (o : List ℕ) (op : Op) → operator o ≡ Some op → TwoLetters o op
unfolding operator
operator-letters o op e =
    word (bytes "eq") Eq _ (refl, refl)
    (word (bytes "ne") Ne _ (refl, refl)
    (word (bytes "lt") Lt _ (refl, refl)
    (word (bytes "le") Le _ (refl, refl)
    (word (bytes "gt") Gt _ (refl, refl)
    (word (bytes "ge") Ge _ (refl, refl) (λ q. let z : ◌≡◌ {A = ℕ} 0 1 = cc in absurd (omega arith)))))))
    e
  where
    word : (w : List ℕ) (p : Op) (rest : Option Op) → TwoLetters w p → (rest ≡ Some op → TwoLetters o op)
        → cond (same o w) (Some p) rest ≡ Some op → TwoLetters o op
    word w p rest h k q = go (same o w) refl q
      where
        go : (b : Bool) → same o w ≡ b → cond b (Some p) rest ≡ Some op → TwoLetters o op
        go true t r = let v : p ≡ op = cc in rw (same-equal o w t, ← v) h
        go false t r = k r

pub record OperatorAt (s : List ℕ) (a : ℕ) (fs : List (List ℕ)) (op : Op) : Type 0 where
  pub there : a + 2 < length s
  pub told : op_by (get_or s a 0) (eqb (get_or s (a + 1) 0) 116) ≡ op
  pub next : parts_from comma (a + 3) s ≡ drop 1 fs

pub known-operator : (s : List ℕ) (a : ℕ) (op : Op) → operator (get_or (parts_from comma a s) 0 []) ≡ Some op
    → 2 ≤ length (parts_from comma a s) → OperatorAt s a (parts_from comma a s) op
known-operator s a op e h =
    let f = first s a (some-there s a h) in
    let w = operator-letters (get_or (parts_from comma a s) 0 []) op e in
    let size : f.size ≡ 2 = sym f.long ∙ w.1 in
    let z : a + 0 ≡ a = omega arith in
    let x : a + 2 + 1 ≡ a + 3 = omega arith in
    record {
      there = (rw size at (f.more h)).0;
      told = rw (rw z at (f.byte 0 (omega arith)), f.byte 1 (omega arith)) at w.0;
      next = rw (size, x) at f.next;
    }

module _ {s : List ℕ} {a : ℕ} {fs : List (List ℕ)} {op : Op} (k : OperatorAt s a fs op) where
  pub op-first : (b : ℕ) → get_or s a 0 ≡ b → op_by b (eqb (get_or s (a + 1) 0) 116) ≡ op
  op-first b e = ap (λ b. op_by b (eqb (get_or s (a + 1) 0) 116)) (sym e) ∙ k.told

  pub op-both : (b : ℕ) → get_or s a 0 ≡ b → {t : Bool} → eqb (get_or s (a + 1) 0) 116 ≡ t → op_by b t ≡ op
  op-both b e f = ap (op_by b) (sym f) ∙ op-first b e

  pub op-last : (get_or s a 0 ≡ 101 → ⊥) → (get_or s a 0 ≡ 110 → ⊥) → (get_or s a 0 ≡ 108 → ⊥) → {t : Bool} → eqb (get_or s (a + 1) 0) 116 ≡ t
      → cond t Gt Ge ≡ op
  op-last x y z f = simp (ne_eqb _ _ x, ne_eqb _ _ y, ne_eqb _ _ z, f) at k.told

-- ---- digits

pub value_grows : (n : ℕ) (s : List ℕ) → n ≤ value_from n s
unfolding value_from
value_grows n [] = omega arith
value_grows n (b ∷ s) = let l = value_grows (n * 10 + (b - 48)) s in omega arith

-- the bytes from a on, by their place behind it
pub there : (s : List ℕ) (a : ℕ) → length (take (length s - a) (drop a s)) ≡ length s - a
there s a = length-take-le (length s - a) (drop a s) (omega (arith, length-drop a s))

pub byte-there : (s : List ℕ) (a i : ℕ) → i < length (take (length s - a) (drop a s))
    → (a + i < length s) × (get_or (take (length s - a) (drop a s)) i 0 ≡ get_or s (a + i) 0)
byte-there s a i h =
    let l = there s a in
    (omega arith, get_or-take (length s - a) (drop a s) i 0 (omega arith) ∙ get_or-drop a s i 0)

-- the digits from a up to i have this value, and those from i on are still to be read
pub record Reading (s : List ℕ) (a value i : ℕ) : Type 0 where
  pub whole : value_from 0 (get_or (parts_from comma a s) 0 []) ≡ value_from value (get_or (parts_from comma i s) 0 [])
  pub digits : all is_digit (get_or (parts_from comma i s) 0 []) ≡ true
  pub rest : drop 1 (parts_from comma i s) ≡ drop 1 (parts_from comma a s)
  pub most : value_from value (get_or (parts_from comma i s) 0 []) ≤ 2147483648

pub reading-below : {s : List ℕ} {a value i : ℕ} → Reading s a value i → value ≤ 2147483648
reading-below {s} {a} {value} {i} r = omega (arith, r.most, value_grows value (get_or (parts_from comma i s) 0 []))

module _ (s : List ℕ) (a value i : ℕ) (h : i < length s) (n : get_or s i 0 ≡ comma → ⊥) (r : Reading s a value i) where
  pub reading-digit : (48 ≤ get_or s i 0) × (get_or s i 0 ≤ 57)
  reading-digit = digit-bounds (get_or s i 0) (all_first is_digit (get_or s i 0) _ (rw (byte-first s i h n) at r.digits))

  pub reading-turn : Reading s a (value * 10 + (get_or s i 0 - 48)) (i + 1)
  unfolding value_from
  reading-turn =
      let f = byte-first s i h n in
      record {
        whole = rw f at r.whole;
        digits = all_rest is_digit (get_or s i 0) _ (rw f at r.digits);
        rest = sym (byte-rest s i h n) ∙ r.rest;
        most = rw f at r.most;
      }

-- the digits end
pub reading-ends : {s : List ℕ} {a value i : ℕ} {gs : List (List ℕ)} → Reading s a value i → parts_from comma i s ≡ [] ∷ gs
    → (value ≡ value_from 0 (get_or (parts_from comma a s) 0 [])) × (gs ≡ drop 1 (parts_from comma a s))
unfolding value_from
reading-ends r e = (sym (rw e at r.whole), rw e at r.rest)
