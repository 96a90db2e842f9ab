-- How many characters there are, and a text copied to the front of a buffer that has room for it.
use Prim.Native.Nat.{ℕ, zero, suc, ◌≤◌}
use mathlib.Core.Path.{◌≡◌, refl, sym, ap, ◌∙◌}
use mathlib.Core.List.{List}
use mathlib.Core.Bool.{Bool}
use native.Mathlib.Omega.{arith}
use lib.ListN.{length, take, drop}
use lib.Seq.{take_at}
use Rattle.output.specs.Pour.{poured}
use Rattle.output.proofs.Pour.{pour-fits}
use Rattle.output.proofs.Poured.{stored}
use Rattle.fields.specs.Places.{characters_in}

pub length-characters : (w n : ℕ) (bs : List Bool) → length (characters_in w n bs) ≡ n
unfolding characters_in
length-characters w zero bs = refl
length-characters w (suc n) bs = ap suc (length-characters w n (drop w bs))

-- a text at the front of a buffer
pub copied-text : (n : ℕ) (t old : List ℕ) (x : ℕ) (last : List ℕ) → n ≡ length t → n ≤ length old → (x, last) ≡ poured 0 t old
    → take n last ≡ t
copied-text n t old x last l h e =
    ap (take n) (stored 0 t old x last e ∙ pour-fits t old (omega arith)) ∙ take_at t (drop (length t) old) n (sym l)
