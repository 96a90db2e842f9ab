-- The test of an if, made of what was read.
use Prim.Native.Nat.{ℕ, zero, suc}
use mathlib.Core.Path.{◌≡◌, refl}
use lib.IntN.{ℤ}
use Rattle.transcript.specs.declared.Test.{Test}
use Rattle.transcript.specs.declared.Op.{Op}
use Rattle.transcript.specs.declared.Op.TheVariants.{Ge}
use Rattle.plate.specs.Reading.{Place, got, return}
use Rattle.plate.specs.Plate.{op_of}

-- the last code stands for every number from 5 on
pub op-last : (k : ℕ) → (k ≡ 0 → ⊥) → (k ≡ 1 → ⊥) → (k ≡ 2 → ⊥) → (k ≡ 3 → ⊥) → (k ≡ 4 → ⊥) → Ge ≡ op_of k
op-last zero h0 h1 h2 h3 h4 = absurd (h0 refl)
op-last (suc zero) h0 h1 h2 h3 h4 = absurd (h1 refl)
op-last (suc (suc zero)) h0 h1 h2 h3 h4 = absurd (h2 refl)
op-last (suc (suc (suc zero))) h0 h1 h2 h3 h4 = absurd (h3 refl)
op-last (suc (suc (suc (suc zero)))) h0 h1 h2 h3 h4 = absurd (h4 refl)
op-last (suc (suc (suc (suc (suc k))))) h0 h1 h2 h3 h4 = refl

abbrev test_of : ℕ → Op → ℤ → Test
test_of r o c = record { register = r; op = o; constant = c }

pub test-made : (r : ℕ) {o o' : Op} {c c' : ℤ} (q : Place) → o ≡ o' → c ≡ c' → got (test_of r o c) q ≡ return (test_of r o' c') q
unfolding return
test-made r q eo ec = λ i. got (test_of r (eo i) (ec i)) q
