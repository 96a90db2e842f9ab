-- Values that stand one behind the other on a plate, read one by one.
use Prim.Native.Nat.{ℕ, zero, suc}
use mathlib.Core.Path.{◌≡◌, refl, sym, ap, ◌∙◌}
use mathlib.Core.List.{List, [], ◌∷◌}
use native.Mathlib.Omega.{arith}
use lib.ListN.{length}
use Rattle.causes.specs.declared.Cause.{Cause}
use Rattle.plate.specs.Reading.{Place, Read, got, stopped, Reader, return, onward, ◌>>=◌, many}
use Rattle.fields.specs.Places.{place_at, values_of}
use Rattle.reader.specs.Holding.{There}

module _ {A : Type 0} (r : ℕ → Reader A) where
  -- as many as were asked for
  pub many-length : (n : ℕ) (p : Place) (xs : List A) (q : Place) → many r n p ≡ got xs q → length xs ≡ n
  unfolding many return ◌>>=◌
  many-length zero p xs q e = ap (λ m. length (values_of m)) (sym e)
  many-length (suc n) p xs q e = go (r n p) e
      (λ s ys u h. many-length n s ys u h)
    where
      Shorter : Type 0
      Shorter = (s : Place) (ys : List A) (u : Place) → many r n s ≡ got ys u → length ys ≡ n

      more : (a : A) (m : Read (List A)) (s : Place) → many r n s ≡ m → onward m (λ as'. return (a ∷ as')) ≡ got xs q → Shorter
          → length xs ≡ suc n
      more a (got ys u) s h k rest = ap (λ m. length (values_of m)) (sym k) ∙ ap suc (rest s ys u h)
      more a (stopped cause at) s h k rest = let z : ◌≡◌ {A = ℕ} 0 1 = cc in absurd (omega arith)

      go : (m : Read A) → onward m (λ a. many r n >>= λ as'. return (a ∷ as')) ≡ got xs q → Shorter → length xs ≡ suc n
      go (got a s) k rest = more a (many r n s) s refl k rest
      go (stopped cause at) k rest = let z : ◌≡◌ {A = ℕ} 0 1 = cc in absurd (omega arith)

module _ {A : Type 0} (r : ℕ → Reader A) (plate : List ℕ) where
  -- what is there is what `many` gives
  pub there-values : {n bit : ℕ} {xs : List A} → There r plate n bit xs → xs ≡ values_of (many r n (place_at plate bit))
  there-values t = ap values_of (sym t.read)

  -- none
  pub there-no-more : {bit : ℕ} {xs : List A} → There r plate 0 bit xs → xs ≡ []
  unfolding many return
  there-no-more t = ap values_of (sym t.read)

  -- the first of them and the others
  pub record First (n bit : ℕ) (xs : List A) (x : A) (next : ℕ) : Type 0 where
    pub rest : List A
    pub split : xs ≡ x ∷ rest
    pub others : There r plate n next rest

  -- the first was read: the others stand behind it
  pub there-next : {n bit : ℕ} {xs : List A} {x : A} {next : ℕ} → There r plate (suc n) bit xs
      → got x (place_at plate next) ≡ r n (place_at plate bit) → First n bit xs x next
  unfolding many ◌>>=◌ return
  there-next {n} {bit} {xs} {x} {next} t e = go (many r n (place_at plate next)) refl
      (ap (λ m. onward m (λ a. many r n >>= λ as'. return (a ∷ as'))) e ∙ t.read)
    where
      go : (m : Read (List A)) → many r n (place_at plate next) ≡ m → onward m (λ as'. return (x ∷ as')) ≡ got xs t.end
          → First n bit xs x next
      go (got ys q) h k = record { rest = ys; split = sym (ap values_of k); others = record { end = q; read = h } }
      go (stopped cause at) h k = let z : ◌≡◌ {A = ℕ} 0 1 = cc in absurd (omega arith)

  -- nothing that is there is refused
  pub there-read : {n bit : ℕ} {xs : List A} {cause : Cause} {at : ℕ} → There r plate (suc n) bit xs
      → stopped cause at ≡ r n (place_at plate bit) → ⊥
  unfolding many ◌>>=◌
  there-read {n} {bit} {xs} {cause} {at} t e =
      let k : stopped cause at ≡ got xs t.end = ap (λ m. onward m (λ a. many r n >>= λ as'. return (a ∷ as'))) e ∙ t.read in
      let z : ◌≡◌ {A = ℕ} 0 1 = cc in absurd (omega arith)

  -- how many there are
  pub there-length : {n bit : ℕ} {xs : List A} → There r plate n bit xs → length xs ≡ n
  there-length {n} {bit} {xs} t = many-length r n (place_at plate bit) xs t.end t.read
