-- The options of an inputs: their number less two, and so many texts.
use Prim.Native.Nat.{ℕ, suc, ◌+◌}
use mathlib.Core.Path.{◌≡◌, ap, ◌∙◌}
use mathlib.Core.List.{List}
use native.Mathlib.Omega.{arith}
use lib.Dec.{leb}
use Rattle.causes.specs.declared.Cause.TheVariants.{Unused}
use Rattle.phrases.specs.Phrases.{Phrases}
use Rattle.plate.specs.Reading.{Place, got, number, judged, many}
use Rattle.plate.specs.Plate.{text, options}
use Rattle.fields.specs.Places.{place_at, Known}
use Rattle.fields.proofs.Onward.{then-got}
use Rattle.plate_texts.proofs.Known.{known-first, known-judged}

pub options-read : (c : Phrases) (p q : Place) (k : ℕ) → got k q ≡ judged (number 3) (λ k. leb k 6) Unused p
    → many (λ j. text c) (k + 2) q ≡ options c p
unfolding options
options-read c p q k e =
    let two : k + 2 ≡ suc (suc k) = omega arith in
    ap (λ n. many (λ j. text c) n q) two ∙ then-got _ (λ k. many (λ j. text c) (suc (suc k))) p e

-- where the options are known to be good, so is their number
pub options-number : (c : Phrases) (plate : List ℕ) (at : ℕ) → Known (options c (place_at plate at))
    → number 3 (place_at plate at) ≡ judged (number 3) (λ k. leb k 6) Unused (place_at plate at)
unfolding options
options-number c plate at w = known-judged _ _ _ plate at (known-first _ _ _ w)
