-- Readers by what they read: a judged one, and one after the other; and numbers by the answer of the code that reads bits.
use Prim.Native.Nat.{ℕ, ◌+◌, ◌-◌, ◌*◌, ◌≤◌}
use mathlib.Core.Path.{◌≡◌, refl, sym, subst, ap, ◌∙◌}
use mathlib.Core.List.{List, []}
use mathlib.Core.Bool.{Bool, true, false}
use native.Mathlib.Omega.{arith}
use lib.ListN.{length, drop, length-drop}
use lib.Seq.{drop-drop}
use borrow.Author.Tests.{lt-leb}
use Rattle.causes.specs.declared.Cause.{Cause}
use Rattle.causes.specs.declared.Cause.TheVariants.{PlateEnds}
use Rattle.bits.specs.Bits.{bytes_bits}
use Rattle.bits.specs.Number.{number_in}
use Rattle.std.specs.Prelude.{Some, None}
use Rattle.bits.proofs.Bytes.{length-bytes_bits}
use Rattle.bits.proofs.Reading.{number_fits, number-ends, number_is}
use Rattle.plate.specs.Reading.{Place, Read, got, stopped, Reader, number, judge_read, judged, onward, ◌>>=◌}
use Rattle.fields.specs.Places.{place_at}
use Rattle.plate.proofs.Readers.{Told, Gives, here, number-got}

-- ---- one reader after the other

module _ {A B : Type 0} (r : Reader A) (f : A → Reader B) (p : Place) where
  pub then-got : {a : A} {q : Place} → got a q ≡ r p → f a q ≡ (r >>= f) p
  unfolding ◌>>=◌
  then-got e = ap (λ m. onward m f) e

  pub then-stopped : {cause : Cause} {bit : ℕ} → stopped cause bit ≡ r p → stopped cause bit ≡ (r >>= f) p
  unfolding ◌>>=◌
  then-stopped e = ap (λ m. onward m f) e

-- ---- a judged reader, at a bit of a plate

module _ {A : Type 0} (r : Reader A) (test : A → Bool) (cause : Cause) (plate : List ℕ) (at : ℕ) where
  pub judged-got : {a : A} {q : Place} → got a q ≡ r (place_at plate at) → test a ≡ true → got a q ≡ judged r test cause (place_at plate at)
  unfolding judged
  judged-got e h = rw h at (ap (judge_read test cause (place_at plate at).at) e)

  pub judged-not : {a : A} {q : Place} → got a q ≡ r (place_at plate at) → test a ≡ false
      → stopped cause at ≡ judged r test cause (place_at plate at)
  unfolding judged place_at
  judged-not e h = rw h at (ap (judge_read test cause at) e)

  pub judged-stopped : {c : Cause} {bit : ℕ} → stopped c bit ≡ r (place_at plate at) → stopped c bit ≡ judged r test cause (place_at plate at)
  unfolding judged
  judged-stopped e = ap (judge_read test cause (place_at plate at).at) e

  -- the same reader, with a test that judges alike
  pub judged-alike : (other : A → Bool) → ((a : A) → other a ≡ test a)
      → judged r other cause (place_at plate at) ≡ judged r test cause (place_at plate at)
  unfolding judged
  judged-alike other h = go (r (place_at plate at))
    where
      go : (m : Read A) → judge_read other cause (place_at plate at).at m ≡ judge_read test cause (place_at plate at).at m
      go (got a q) = rw (h a)
      go (stopped c bit) = refl

-- what was read is good
pub got-good : {A : Type 0} {r : Reader A} {w : A → List Bool} {ok : A → Type 0} {a : A} {q : Place} (p : Place) → Gives r [] w ok
    → got a q ≡ r p → ok a
got-good {w = w} {ok = ok} p g e = (subst (Told p w ok) (sym e) (g.tells p p (here p))).0

-- ---- a number at a bit of a plate

module _ (plate : List ℕ) (at w : ℕ) where
  pub number-there : (v : ℕ) → number_in w (drop at (bytes_bits plate)) ≡ Some v
      → got v (place_at plate (at + w)) ≡ number w (place_at plate at)
  unfolding place_at
  number-there v e =
      let bits = drop at (bytes_bits plate) in
      let rest : drop (at + w) (bytes_bits plate) ≡ drop w bits = sym (drop-drop w at (bytes_bits plate)) in
      (λ i. got (number_is w bits v e i) (record { left = rest i; at = at + w }))
      ∙ sym (number-got w (place_at plate at) (number_fits w bits v e))

  pub number_cut : number_in w (drop at (bytes_bits plate)) ≡ None → stopped PlateEnds at ≡ number w (place_at plate at)
  unfolding place_at number
  number_cut e = rw (lt-leb w (length (drop at (bytes_bits plate))) (number-ends w (drop at (bytes_bits plate)) e))

  -- the bit behind it is again a place
  pub number-end : (v : ℕ) → number_in w (drop at (bytes_bits plate)) ≡ Some v → w ≤ length plate * 8 - at
  number-end v e = omega (arith, number_fits w (drop at (bytes_bits plate)) v e, length-drop at (bytes_bits plate), length-bytes_bits plate)
