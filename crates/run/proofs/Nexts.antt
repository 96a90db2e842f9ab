-- The next of the values that stand one behind the other on a plate, with so many left as the code counts them.
use Prim.Native.Nat.{ℕ, zero, suc, ◌-◌, ◌<◌}
use native.Mathlib.Numerals.{sub-one}
use native.Mathlib.Omega.{arith}
use mathlib.Core.Path.{◌≡◌, ap, ◌∙◌}
use mathlib.Core.List.{List, [], ◌∷◌}
use Rattle.causes.specs.declared.Cause.{Cause}
use Rattle.plate.specs.Reading.{got, stopped, Reader, many}
use Rattle.fields.specs.Places.{place_at, values_of}
use Rattle.reader.specs.Holding.{There}
use Rattle.reader.proofs.Next.{First, there-values, there-next, there-no-more, there-read}

module _ {A : Type 0} (r : ℕ → Reader A) (plate : List ℕ) where
  -- the values from a bit on
  abbrev pub values_at : ℕ → ℕ → List A
  values_at n bit = values_of (many r n (place_at plate bit))

  -- the first of them, and the others behind it
  pub record Split (left bit : ℕ) (x : A) (next : ℕ) : Type 0 where
    pub split : values_at left bit ≡ x ∷ values_at (left - 1) next
    pub others : There r plate (left - 1) next (values_at (left - 1) next)

  -- it was read
  pub next-read : (left bit next : ℕ) {x : A} → There r plate left bit (values_at left bit) → 0 < left
      → got x (place_at plate next) ≡ r (left - 1) (place_at plate bit) → Split left bit x next
  next-read zero bit next t h e = absurd (omega arith)
  next-read (suc n) bit next {x} t h e = go (there-next r plate t (rw sub-one at e))
    where
      go : First r plate n bit (values_at (suc n) bit) x next → Split (suc n) bit x next
      go f =
          let same = there-values r plate f.others in
          record { split = rw sub-one (f.split ∙ ap (λ xs. x ∷ xs) same); others = rw sub-one (rw same at f.others) }

  -- it is not refused
  pub next-there : (left bit : ℕ) {cause : Cause} {at : ℕ} → There r plate left bit (values_at left bit) → 0 < left
      → stopped cause at ≡ r (left - 1) (place_at plate bit) → ⊥
  next-there zero bit t h e = omega arith
  next-there (suc n) bit t h e = there-read r plate t (rw sub-one at e)

  -- none is left
  pub none_left : (left bit : ℕ) → There r plate left bit (values_at left bit) → left ≡ 0 → values_at left bit ≡ []
  none_left left bit t z = rw z (there-no-more r plate (rw z at t))
