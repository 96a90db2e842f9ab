-- The fields of a line that is no fault have their values.
use Prim.Native.Nat.{ℕ, ◌+◌, ◌≤◌, ◌<◌}
use native.Mathlib.Omega.{arith}
use mathlib.Core.Path.{◌≡◌, refl, sym, ap, ◌∙◌}
use mathlib.Core.List.{List, [], ◌∷◌}
use mathlib.Core.Bool.{Bool, true, false, cond, ◌&&◌, false≢true}
use Rattle.std.specs.Prelude.{Option, None, Some}
use Rattle.std.proofs.lemmas.Option.{none-some}
use lib.ListN.{length, drop, get_or}
use lib.Dec.{leb}
use lib.IntN.{ℤ}
use borrow.Author.Tests.{leb-true}
use Rattle.causes.specs.declared.Cause.{Cause}
use Rattle.text.specs.Parts.{comma, parts_from, all}
use Rattle.decimals.specs.Number.{is_digit, is_natural, value_from, natural, register, constant, skip}
use Rattle.text.proofs.Tests.{and_parts}
use Rattle.decimals.proofs.Decimals.{natural-digits}
use Rattle.decimals.proofs.Reading.{natural-none}
use Rattle.transcript.specs.declared.Op.{Op}
use Rattle.lines.specs.declared.Form.{Form}
use Rattle.lines.specs.declared.Form.TheVariants.{Guide, Listing}
use Rattle.lines.specs.Line.{Line, faulty, given, operator, option_count, input_line, inputs_line, if_fields, goto_fields}
use Rattle.lines.specs.Fields.{test_of}
use Rattle.lines.specs.Clean.{is_clean}
use Rattle.lines.specs.Known.{HasValue, HasDigits}
use Rattle.lines.proofs.FieldPlaces.{fields-there}
use Rattle.accepted_lines.proofs.KnownFields.{First, first}

abbrev Is : Line → Type 0
Is l = is_clean l ≡ true

module _ {A : Type 0} where
  given-some : (o : Option A) (f : A → Line) → Is (given o f) → (v : A) × (o ≡ Some v) × Is (f v)
  given-some None f c = absurd (false≢true c)
  given-some (Some v) f c = (v, refl, c)

pub input-known : (fs : List (List ℕ)) → Is (input_line fs) → HasValue register fs × (2 ≤ length fs)
input-known [] c = absurd (false≢true c)
input-known (r ∷ []) c = absurd (false≢true c)
input-known (r ∷ t ∷ []) c = let k = given-some (register r) _ c in ((k.0, k.1), omega arith)
input-known (r ∷ t ∷ u ∷ fs) c = absurd (false≢true c)

pub inputs-known : (fs : List (List ℕ)) → Is (inputs_line fs) → HasValue register fs × (2 ≤ length fs)
inputs-known [] c = absurd (false≢true c)
inputs-known (r ∷ []) c = absurd (false≢true c)
inputs-known (r ∷ t ∷ os) c = go (option_count os) _ _ c
  where
    go : (b : Bool) (f : ℕ → Line) (cause : Cause) → Is (cond b (given (register r) f) (faulty cause))
        → HasValue register (r ∷ t ∷ os) × (2 ≤ length (r ∷ t ∷ os))
    go true f cause c = let k = given-some (register r) f c in ((k.0, k.1), omega arith)
    go false f cause c = absurd (false≢true c)

pub goto-known : (form : Form) (fs : List (List ℕ)) → Is (goto_fields form fs) → HasValue skip fs
goto-known Guide fs c = absurd (false≢true c)
goto-known Listing [] c = absurd (false≢true c)
goto-known Listing (k ∷ []) c = let j = given-some (skip k) _ c in (j.0, j.1)
goto-known Listing (k ∷ u ∷ fs) c = absurd (false≢true c)

-- ---- an if

pub record IfKnown (form : Form) (fs : List (List ℕ)) : Type 0 where
  pub count : 3 ≤ length fs
  pub r : HasValue register fs
  pub o : HasValue operator (drop 1 fs)
  pub c : HasValue constant (drop 1 (drop 1 fs))
  pub k : form ≡ Listing → HasValue skip (drop 1 (drop 1 (drop 1 fs)))

pub if-known : (form : Form) (fs : List (List ℕ)) → Is (if_fields form fs) → IfKnown form fs
if-known Guide [] c = absurd (false≢true c)
if-known Guide (r ∷ []) c = absurd (false≢true c)
if-known Guide (r ∷ o ∷ []) c = absurd (false≢true c)
if-known Guide (r ∷ o ∷ c ∷ []) v =
    let a = given-some (register r) _ v in
    let b = given-some (operator o) _ a.2 in
    let d = given-some (constant c) _ b.2 in
    record {
      count = omega arith;
      r = (a.0, a.1);
      o = (b.0, b.1);
      c = (d.0, d.1);
      k = λ e. let z : ◌≡◌ {A = ℕ} 0 1 = cc in absurd (omega arith);
    }
if-known Guide (r ∷ o ∷ c ∷ k ∷ fs) v = absurd (false≢true v)
if-known Listing [] c = absurd (false≢true c)
if-known Listing (r ∷ []) c = absurd (false≢true c)
if-known Listing (r ∷ o ∷ []) c = absurd (false≢true c)
if-known Listing (r ∷ o ∷ c ∷ []) v = absurd (false≢true v)
if-known Listing (r ∷ o ∷ c ∷ k ∷ []) v =
    let a = given-some (register r) _ v in
    let b = given-some (operator o) _ a.2 in
    let d = given-some (constant c) _ b.2 in
    let j = given-some (skip k) _ d.2 in
    record { count = omega arith; r = (a.0, a.1); o = (b.0, b.1); c = (d.0, d.1); k = λ e. (j.0, j.1) }
if-known Listing (r ∷ o ∷ c ∷ k ∷ u ∷ fs) v = absurd (false≢true v)

-- the test of the first three fields
pub test-of : (fs : List (List ℕ)) {r : ℕ} {o : Op} {c : ℤ} → register (get_or fs 0 []) ≡ Some r → operator (get_or (drop 1 fs) 0 []) ≡ Some o
    → constant (get_or (drop 1 (drop 1 fs)) 0 []) ≡ Some c
    → test_of (get_or fs 0 []) (get_or fs 1 []) (get_or fs 2 []) ≡ Some (record { register = r; op = o; constant = c })
unfolding test_of
test-of [] x y z = rw (x, y, z)
test-of (r ∷ []) x y z = rw (x, y, z)
test-of (r ∷ o ∷ []) x y z = rw (x, y, z)
test-of (r ∷ o ∷ c ∷ fs) x y z = rw (x, y, z)

-- ---- numbers

-- a field that is there begins in the line
pub field-there : (s : List ℕ) (a : ℕ) → (get_or (parts_from comma a s) 0 [] ≡ [] → ⊥)
    → (a < length s) × (get_or (get_or (parts_from comma a s) 0 []) 0 0 ≡ get_or s a 0)
field-there s a n = go (first s a (fields-there s a (λ e. n (nothing (parts_from comma a s) e))))
  where
    nothing : (fs : List (List ℕ)) → length fs ≡ 0 → get_or fs 0 [] ≡ []
    nothing [] e = refl
    nothing (f ∷ fs) e = absurd (omega arith)

    empty : (f : List ℕ) → length f ≡ 0 → f ≡ []
    empty [] e = refl
    empty (b ∷ f) e = absurd (omega arith)

    go : First s a (parts_from comma a s) → (a < length s) × (get_or (get_or (parts_from comma a s) 0 []) 0 0 ≡ get_or s a 0)
    go f =
        let filled : f.size ≡ 0 → ⊥ = λ z. n (empty (get_or (parts_from comma a s) 0 []) (f.long ∙ z)) in
        let z : a + 0 ≡ a = omega arith in
        (omega (arith, f.ends), rw z at (f.byte 0 (omega arith)))

natural-some : (limit : ℕ) (f : List ℕ) (n : ℕ) → natural limit f ≡ Some n
    → (all is_digit f ≡ true) × (value_from 0 f ≤ limit) × (value_from 0 f ≡ n)
unfolding natural
natural-some limit f n e = go (is_natural f && leb (value_from 0 f) limit) refl e
  where
    go : (b : Bool) → (is_natural f && leb (value_from 0 f) limit) ≡ b → cond b (Some (value_from 0 f)) None ≡ Some n
        → (all is_digit f ≡ true) × (value_from 0 f ≤ limit) × (value_from 0 f ≡ n)
    go true t q =
        let k = and_parts (is_natural f) (leb (value_from 0 f) limit) t in
        (natural-digits f k.0, leb-true (value_from 0 f) limit k.1, cc)
    go false t q = absurd (none-some n q)

-- digits of the line from a on
pub record NumberAt (limit : ℕ) (s : List ℕ) (a : ℕ) : Type 0 where
  pub digits : HasDigits (parts_from comma a s)
  pub there : a ≤ length s
  pub reads : natural limit (get_or (parts_from comma a s) 0 []) ≡ Some (value_from 0 (get_or (parts_from comma a s) 0 []))

pub known-number : (limit : ℕ) (s : List ℕ) (a n : ℕ) → limit ≤ 2147483648 → natural limit (get_or (parts_from comma a s) 0 []) ≡ Some n
    → NumberAt limit s a
known-number limit s a n h e =
    let k = natural-some limit (get_or (parts_from comma a s) 0 []) n e in
    let t = field-there s a (λ z. none-some n (sym (natural-none limit (get_or (parts_from comma a s) 0 []) (ap length z)) ∙ e)) in
    record { digits = (k.0, omega (arith, k.1)); there = omega (arith, t.0); reads = e ∙ ap Some (sym k.2) }

pub fourth : (fs : List (List ℕ)) → get_or (drop 1 (drop 1 (drop 1 fs))) 0 [] ≡ get_or fs 3 []
fourth [] = refl
fourth (r ∷ []) = refl
fourth (r ∷ o ∷ []) = refl
fourth (r ∷ o ∷ c ∷ fs) = refl
