-- A constant that is known to be right, by its sign.
use Prim.Native.Nat.{ℕ, zero, suc, ◌+◌, ◌-◌, ◌≤◌, ◌<◌}
use native.Mathlib.Omega.{arith}
use native.Mathlib.Numerals.{sub-one}
use mathlib.Core.Path.{◌≡◌, refl, sym, ◌∙◌}
use mathlib.Core.List.{List, [], ◌∷◌}
use Rattle.std.specs.Prelude.{Option, None, Some}
use Rattle.std.proofs.lemmas.Option.{none-some}
use lib.ListN.{length, drop, get_or}
use lib.IntN.{ℤ, pos, negsuc}
use borrow.Author.Tests.{eq-eqb}
use Rattle.text.specs.Parts.{comma, parts_from}
use Rattle.decimals.specs.Number.{value_from, natural, positive, negative, constant, minus}
use Rattle.decimals.proofs.Decimals.{natural-written}
use Rattle.decimals.proofs.Signs.{constant-plain}
use Rattle.accepted_lines.proofs.KnownFields.{byte-first, byte-rest}
use Rattle.accepted_lines.proofs.KnownLines.{NumberAt, known-number, field-there}

negative-some : (o : Option ℕ) (z : ℤ) → negative o ≡ Some z → (m : ℕ) × (o ≡ Some (suc m)) × (z ≡ negsuc m)
negative-some None z e = absurd (none-some z e)
negative-some (Some zero) z e = absurd (none-some z e)
negative-some (Some (suc m)) z e = (m, refl, cc)

positive-some : (o : Option ℕ) (z : ℤ) → positive o ≡ Some z → (n : ℕ) × (o ≡ Some n) × (z ≡ pos n)
positive-some None z e = absurd (none-some z e)
positive-some (Some n) z e = (n, refl, cc)

module _ (s : List ℕ) (a : ℕ) (z : ℤ) (e : constant (get_or (parts_from comma a s) 0 []) ≡ Some z) where
  filled : get_or (parts_from comma a s) 0 [] ≡ [] → ⊥
  unfolding constant
  filled n = none-some z (rw n at e)

  pub constant-there : a < length s
  constant-there = (field-there s a filled).0

  -- a number behind a minus
  pub record Below : Type 0 where
    pub number : NumberAt 2147483648 s (a + 1)
    pub above : 1 ≤ value_from 0 (get_or (parts_from comma (a + 1) s) 0 [])
    pub value : z ≡ negsuc (value_from 0 (get_or (parts_from comma (a + 1) s) 0 []) - 1)
    pub rest : drop 1 (parts_from comma (a + 1) s) ≡ drop 1 (parts_from comma a s)

  pub known-below : get_or s a 0 ≡ minus → Below
  unfolding constant
  known-below m =
      let n : get_or s a 0 ≡ comma → ⊥ = λ c. omega arith in
      let f = byte-first s a constant-there n in
      let c : negative (natural 2147483648 (get_or (parts_from comma (a + 1) s) 0 [])) ≡ Some z = rw (f, eq-eqb (get_or s a 0) minus m) at e in
      let k = negative-some (natural 2147483648 (get_or (parts_from comma (a + 1) s) 0 [])) z c in
      let d = known-number 2147483648 s (a + 1) (suc k.0) (omega arith) k.1 in
      let v : value_from 0 (get_or (parts_from comma (a + 1) s) 0 []) ≡ suc k.0 = cc (d.reads, k.1) in
      record {
        number = d;
        above = omega arith;
        value = rw (v, sub-one) k.2;
        rest = sym (byte-rest s a constant-there n);
      }

  -- a number with no sign
  pub record Plain : Type 0 where
    pub number : NumberAt 2147483647 s a
    pub value : z ≡ pos (value_from 0 (get_or (parts_from comma a s) 0 []))
    pub most : value_from 0 (get_or (parts_from comma a s) 0 []) ≤ 2147483647

  pub known-plain : (get_or s a 0 ≡ minus → ⊥) → Plain
  known-plain n =
      let t = field-there s a filled in
      let f = get_or (parts_from comma a s) 0 [] in
      let c = sym (constant-plain f (λ l. filled (empty f l)) (λ q. n (sym t.1 ∙ q))) ∙ e in
      let k = positive-some (natural 2147483647 f) z c in
      let d = known-number 2147483647 s a k.0 (omega arith) k.1 in
      let v : value_from 0 f ≡ k.0 = cc (d.reads, k.1) in
      record { number = d; value = rw v k.2; most = (natural-written 2147483647 f (value_from 0 f) d.reads).1 }
    where
      empty : (f : List ℕ) → length f ≡ 0 → f ≡ []
      empty [] e = refl
      empty (b ∷ f) e = absurd (omega arith)
