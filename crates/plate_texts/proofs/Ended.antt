-- Readings of which only the size and the end are known: what was read ends there, or is refused there.
use Prim.Native.Nat.{ℕ, ◌+◌}
use mathlib.Core.Path.{◌≡◌, refl, sym, ap, ◌∙◌}
use mathlib.Core.List.{List}
use native.Mathlib.Omega.{arith}
use lib.ListN.{length, drop}
use Rattle.causes.specs.declared.Cause.{Cause}
use Rattle.plate.specs.Reading.{Place, Read, got, stopped, Reader, return, onward, ◌>>=◌}
use Rattle.text.specs.Text.{Text}
use Rattle.output.specs.Pour.{up_to}
use Rattle.bits.specs.Bits.{bytes_bits}
use Rattle.std.specs.Prelude.{Ok}
use Rattle.fields.specs.declared.Field.{Field}
use Rattle.fields.specs.Places.{place_at, size_read, measured, end_with, values_of}
use Rattle.fields.proofs.Copies.{length-characters}

module _ {A : Type 0} where
  -- something of that size was read that ends there
  pub measured-some : (size : A → ℕ) (v : ℕ) (s : Place) (m : Read A) → got v s ≡ measured size m → (a : A) × (got a s ≡ m) × (v ≡ size a)
  measured-some size v s (got a q) e = let same : s ≡ q = cc in (a, ap (got a) same, cc)
  measured-some size v s (stopped cause bit) e = let z : ◌≡◌ {A = ℕ} 0 1 = cc in absurd (omega arith)

  pub measured-stopped : (size : A → ℕ) (m : Read A) {cause : Cause} {bit : ℕ} → stopped cause bit ≡ measured size m → stopped cause bit ≡ m
  measured-stopped size (got a q) e = let z : ◌≡◌ {A = ℕ} 0 1 = cc in absurd (omega arith)
  measured-stopped size (stopped c b) {cause} {bit} e = let one : cause ≡ c = cc in let two : bit ≡ b = cc in (λ i. stopped (one i) (two i))

  -- what was read, of that size
  pub measured-is : (size : A → ℕ) {v : ℕ} (a : A) {q : Place} {m : Read A} → v ≡ size a → got a q ≡ m → got v q ≡ measured size m
  measured-is size a {q} h e = ap (λ n. got n q) h ∙ ap (measured size) e

  -- a size by another rule
  pub measured-alike : (f g : A → ℕ) → ((a : A) → f a ≡ g a) → (m : Read A) → measured f m ≡ measured g m
  measured-alike f g h (got a q) = ap (λ n. got n q) (h a)
  measured-alike f g h (stopped cause bit) = refl

  -- what is made of what was read
  pub measured-map : {B : Type 0} (size : B → ℕ) (r : Reader A) (f : A → B) (q : Place)
      → measured (λ a. size (f a)) (r q) ≡ measured size ((r >>= λ a. return (f a)) q)
  unfolding ◌>>=◌ return
  measured-map size r f q = go (r q)
    where
      go : (m : Read A) → measured (λ a. size (f a)) m ≡ measured size (onward m (λ a. return (f a)))
      go (got a s) = refl
      go (stopped cause bit) = refl

  -- something was read that ends there
  pub ended_some : (k v : ℕ) (s : Place) (m : Read A) → got v s ≡ end_with k m → (a : A) × (got a s ≡ m)
  ended_some k v s m e = let t = measured-some (λ a. k) v s m e in (t.0, t.1)

-- of values, these were read
pub measured-got : {A : Type 0} (size : List A → ℕ) (v : ℕ) (s : Place) (m : Read (List A)) → got v s ≡ measured size m → got (values_of m) s ≡ m
measured-got size v s m e = let t = measured-some size v s m e in ap (λ m. got (values_of m) s) (sym t.1) ∙ t.1

-- a text that was read by its size, with what stands before it
pub measured-behind : (w : ℕ) (plate : List ℕ) (bit front : ℕ) {m : Read Text} {v next : ℕ} (text : Field ℕ)
    → (v ≡ up_to (front + text.value)) × (next ≡ text.next) → size_read w plate bit (Ok text) ≡ m
    → got v (place_at plate next) ≡ measured (λ t. up_to (front + length t)) m
measured-behind w plate bit front {m} {v} {next} text is e =
    let size = length-characters w text.value (drop bit (bytes_bits plate)) in
    ap (λ n. got v (place_at plate n)) is.1
    ∙ measured-is (λ t. up_to (front + length t)) _ (is.0 ∙ ap (λ n. up_to (front + n)) (sym size)) e
