-- Whether an answer is an option's place, by its sign.
use Prim.Native.Nat.{ℕ}
use mathlib.Core.Path.{◌≡◌, refl, sym, ◌∙◌}
use mathlib.Core.Bool.{true, false, false≢true}
use lib.Dec.{ltb, leb-zero}
use lib.IntN.{ℤ, pos, negsuc, nat_abs}
use lib.Signed.{le_z}
use Rattle.transcript.specs.Perform.{is_option}

pub option_plain : (n : ℕ) (v : ℤ) → le_z (pos 0) v ≡ true → ltb (nat_abs v) n ≡ is_option n v
option_plain n (pos a) h = refl
option_plain n (negsuc a) h = absurd (false≢true h)

pub option-minus : (n : ℕ) (v : ℤ) → le_z (pos 0) v ≡ false → false ≡ is_option n v
option-minus n (pos a) h = absurd (false≢true (sym h ∙ leb-zero a))
option-minus n (negsuc a) h = refl
