-- An if by what the reader of its test finds.
use Prim.Native.Nat.{ℕ, ◌+◌, ◌-◌, ◌≤◌, ◌<◌}
use native.Mathlib.Omega.{arith}
use mathlib.Core.Path.{◌≡◌, refl, sym, ap, ◌∙◌}
use mathlib.Core.List.{List, [], ◌∷◌}
use mathlib.Core.Bool.{Bool, true, false, cond}
use Rattle.std.specs.Prelude.{Option, None, Some, Ok, Err}
use lib.ListN.{length, take, drop, get_or}
use lib.Dec.{eqb}
use lib.IntN.{ℤ}
use Rattle.causes.specs.declared.Cause.TheVariants.{Kind, Value}
use Rattle.text.specs.Parts.{comma, parts_from, split, until_byte, same}
use Rattle.decimals.specs.Number.{register, constant, skip}
use Rattle.text.proofs.Splits.{Some as Parted, split-some}
use Rattle.text.proofs.Places.{parts-some, parts_none, parts_next}
use Rattle.transcript.specs.declared.Op.{Op}
use Rattle.transcript.specs.declared.Test.{Test}
use Rattle.lines.specs.declared.Form.TheVariants.{Guide, Listing}
use Rattle.lines.specs.declared.Head.TheVariants as head
use Rattle.lines.specs.Line.{Line, if_line, if_skip_line, faulty, given, operator, if_fields}
use Rattle.lines.specs.Fields.{test_of}
use Rattle.lines.specs.Answers.{head_of}
use Rattle.lines.proofs.CleanLines.{head_given}
use Rattle.lines.proofs.FieldCounts.{test-given, guide-if-counted, listing-if-counted}

-- ---- three fields, one behind the other

module _ (s : List ℕ) (a e : ℕ) (h : a ≤ length s) (k : e ≡ a + until_byte comma (drop a s)) where
  -- without a register
  pub no_register : register (take (e - a) (drop a s)) ≡ None
      → test_of (get_or (parts_from comma a s) 0 []) (get_or (parts_from comma a s) 1 []) (get_or (parts_from comma a s) 2 []) ≡ None
  unfolding test_of
  no_register n = rw (parts_next comma s a e h k, n)

  -- one field alone
  pub one_field : {r : ℕ} → register (take (e - a) (drop a s)) ≡ Some r → e ≡ length s
      → test_of (get_or (parts_from comma a s) 0 []) (get_or (parts_from comma a s) 1 []) (get_or (parts_from comma a s) 2 []) ≡ None
  unfolding test_of operator same
  one_field n l = rw (parts_next comma s a e h k, n, parts_none comma s (e + 1) (omega arith))

  module _ (f : ℕ) (h2 : e + 1 ≤ length s) (k2 : f ≡ e + 1 + until_byte comma (drop (e + 1) s)) where
    two : parts_from comma a s ≡ take (e - a) (drop a s) ∷ take (f - (e + 1)) (drop (e + 1) s) ∷ parts_from comma (f + 1) s
    two = parts_next comma s a e h k ∙ ap (◌∷◌ (take (e - a) (drop a s))) (parts_next comma s (e + 1) f h2 k2)

    pub no-operator : {r : ℕ} → register (take (e - a) (drop a s)) ≡ Some r → operator (take (f - (e + 1)) (drop (e + 1) s)) ≡ None
        → test_of (get_or (parts_from comma a s) 0 []) (get_or (parts_from comma a s) 1 []) (get_or (parts_from comma a s) 2 []) ≡ None
    unfolding test_of
    no-operator n o = rw (two, n, o)

    pub two_fields : {r : ℕ} {op : Op} → register (take (e - a) (drop a s)) ≡ Some r
        → operator (take (f - (e + 1)) (drop (e + 1) s)) ≡ Some op → f ≡ length s
        → test_of (get_or (parts_from comma a s) 0 []) (get_or (parts_from comma a s) 1 []) (get_or (parts_from comma a s) 2 []) ≡ None
    unfolding test_of constant
    two_fields n o l = rw (two, n, o, parts_none comma s (f + 1) (omega arith))

    module _ (g : ℕ) (h3 : f + 1 ≤ length s) (k3 : g ≡ f + 1 + until_byte comma (drop (f + 1) s)) where
      pub three : parts_from comma a s
          ≡ take (e - a) (drop a s) ∷ take (f - (e + 1)) (drop (e + 1) s) ∷ take (g - (f + 1)) (drop (f + 1) s) ∷ parts_from comma (g + 1) s
      three = two ∙ ap (λ l. take (e - a) (drop a s) ∷ take (f - (e + 1)) (drop (e + 1) s) ∷ l) (parts_next comma s (f + 1) g h3 k3)

      pub no-constant : {r : ℕ} {op : Op} → register (take (e - a) (drop a s)) ≡ Some r
          → operator (take (f - (e + 1)) (drop (e + 1) s)) ≡ Some op → constant (take (g - (f + 1)) (drop (f + 1) s)) ≡ None
          → test_of (get_or (parts_from comma a s) 0 []) (get_or (parts_from comma a s) 1 []) (get_or (parts_from comma a s) 2 []) ≡ None
      unfolding test_of
      no-constant n o c = rw (three, n, o, c)

-- the test that three fields give
pub test-some : (r o c : List ℕ) {n : ℕ} {op : Op} {z : ℤ} → register r ≡ Some n → operator o ≡ Some op → constant c ≡ Some z
    → test_of r o c ≡ Some (record { register = n; op = op; constant = z })
unfolding test_of
test-some r o c x y z = rw (x, y, z)

-- ---- an if

counted : (b : Bool) (o : Option Test) (f : Test → Line) → o ≡ None
    → Err (cond b Value Kind) ≡ head_of (cond b (given o f) (faulty Kind))
counted true o f e = rw e
counted false o f e = refl

module _ (fs : List (List ℕ)) (n : test_of (get_or fs 0 []) (get_or fs 1 []) (get_or fs 2 []) ≡ None) where
  pub wrong-guide : Err (cond (eqb (length fs) 3) Value Kind) ≡ head_of (if_fields Guide fs)
  wrong-guide = counted (eqb (length fs) 3) _ _ n ∙ ap head_of (sym (guide-if-counted fs))

  pub wrong-listing : Err (cond (eqb (length fs) 4) Value Kind) ≡ head_of (if_fields Listing fs)
  wrong-listing = counted (eqb (length fs) 4) _ _ n ∙ ap head_of (sym (listing-if-counted fs))

-- a field more
more : (s : List ℕ) (a : ℕ) → a ≤ length s → Parted (parts_from comma a s)
more s a h = go (split-some comma (drop a s))
  where
    go : Parted (split comma (drop a s)) → Parted (parts_from comma a s)
    go (q, qs, f) = (q, qs, parts-some comma s a h ∙ f)

module _ (s : List ℕ) (fs : List (List ℕ)) (r o c : List ℕ) (end : ℕ) (w : fs ≡ r ∷ o ∷ c ∷ parts_from comma (end + 1) s) where
  pub guide-more : end < length s → Err Kind ≡ head_of (if_fields Guide fs)
  guide-more l = go (more s (end + 1) (omega arith))
    where
      go : Parted (parts_from comma (end + 1) s) → Err Kind ≡ head_of (if_fields Guide fs)
      go (q, qs, f) = rw (w, f)

  pub listing-less : end ≡ length s → Err Kind ≡ head_of (if_fields Listing fs)
  listing-less l = rw (w, parts_none comma s (end + 1) (omega arith))

  module _ {test : Test} (t : test_of r o c ≡ Some test) where
    pub guide-test : length s ≤ end → Ok (head.If test) ≡ head_of (if_fields Guide fs)
    guide-test l =
        let e = w ∙ ap (λ l. r ∷ o ∷ c ∷ l) (parts_none comma s (end + 1) (omega arith)) in
        let g : Ok (head.If test) ≡ head_of (given (test_of r o c) if_line) = rw t in
        g ∙ ap head_of (sym (ap (if_fields Guide) e ∙ test-given r o c if_line))

    module _ (e : ℕ) (h : end + 1 ≤ length s) (k : e ≡ end + 1 + until_byte comma (drop (end + 1) s)) where
      pub listing-more : e < length s → Err Kind ≡ head_of (if_fields Listing fs)
      listing-more l = go (more s (e + 1) (omega arith))
        where
          go : Parted (parts_from comma (e + 1) s) → Err Kind ≡ head_of (if_fields Listing fs)
          go (q, qs, f) = rw (w, parts_next comma s (end + 1) e h k, f)

      pub listing-test : length s ≤ e → {j : Option ℕ} → skip (take (e - (end + 1)) (drop (end + 1) s)) ≡ j
          → head_given j (λ k. Ok (head.IfSkip test k)) ≡ head_of (if_fields Listing fs)
      listing-test l {j} q =
          let p = take (e - (end + 1)) (drop (end + 1) s) in
          let d = parts_next comma s (end + 1) e h k ∙ ap (◌∷◌ p) (parts_none comma s (e + 1) (omega arith)) in
          let v = ap (if_fields Listing) (w ∙ ap (λ l. r ∷ o ∷ c ∷ l) d) ∙ test-given r o c (λ t. given (skip p) (if_skip_line t)) in
          let g : head_given j (λ k. Ok (head.IfSkip test k)) ≡ head_of (given (test_of r o c) (λ t. given (skip p) (if_skip_line t))) = rw (t, q) (go j) in
          g ∙ ap head_of (sym v)
        where
          go : (j : Option ℕ) → head_given j (λ k. Ok (head.IfSkip test k)) ≡ head_of (given j (if_skip_line test))
          go None = refl
          go (Some k) = refl
