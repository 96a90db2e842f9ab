-- The bits of the own phrases at a plate's front.
use Prim.Native.Nat.{suc, ◌-◌}
use native.Mathlib.Omega.{arith}
use mathlib.Core.Path.{◌≡◌, refl}
use mathlib.Core.List.{List, [], ◌∷◌, ◌++◌}
use lib.ListN.{length}
use Rattle.bits.specs.Bits.{bits_of}
use Rattle.text.specs.Text.{Text}
use Rattle.plate.specs.Writing.{phrases_bits, own_bits}

pub own-nothing : (ts : List Text) → length ts ≡ 0 → own_bits ts ≡ bits_of 1 0
unfolding own_bits
own-nothing [] h = refl
own-nothing (t ∷ ts) h = absurd (omega arith)

pub own-some : (ts : List Text) → (length ts ≡ 0 → ⊥) → own_bits ts ≡ bits_of 1 1 ++ bits_of 5 (length ts - 1) ++ phrases_bits ts
unfolding own_bits
own-some [] h = absurd (h refl)
own-some (t ∷ ts) h = let e : suc (length ts) - 1 ≡ length ts = omega arith in rw e
