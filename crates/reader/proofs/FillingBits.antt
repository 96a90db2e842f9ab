-- The bits behind the last instruction, as the code reads them: as one number.
use Prim.Native.Nat.{ℕ, ◌+◌, ◌*◌, ◌-◌, ◌^◌, ◌≤◌, ◌<◌}
use mathlib.Core.Path.{◌≡◌, refl, sym, ap, ◌∙◌}
use mathlib.Core.List.{List, [], ◌∷◌}
use mathlib.Core.Bool.{Bool, true, false}
use native.Mathlib.Omega.{arith}
use lib.ListN.{length, drop, length-drop}
use lib.Seq.{take_all}
use lib.Pow.{pow_pos}
use lib.Dec.{eqb}
use borrow.Author.Tests.{lt-ltb, le-ltb, ne_eqb}
use Rattle.bits.specs.Bits.{value_of, bytes_bits}
use Rattle.bits.specs.Number.{number_in}
use Rattle.std.specs.Prelude.{Option, Some, None, MatchOption}
use Rattle.bits.proofs.Bytes.{length-bytes_bits}
use Rattle.bits.proofs.Reading.{number_is, number-ends}
use Rattle.plate.specs.Plate.{zeros}
use Rattle.fields.specs.Places.{place_at}
use Rattle.reader.specs.Filled.{is_filling}

-- no one among the bits: the number that they are is 0
zeros-value : (bs : List Bool) → zeros bs ≡ eqb (value_of bs) 0
unfolding zeros value_of
zeros-value [] = refl
zeros-value (true ∷ bs) =
    let some : 1 * 2 ^ length bs + value_of bs ≡ 0 → ⊥ = λ e. omega (arith, pow_pos (length bs)) in
    sym (ne_eqb (1 * 2 ^ length bs + value_of bs) 0 some)
zeros-value (false ∷ bs) =
    let e : value_of bs ≡ 0 * 2 ^ length bs + value_of bs = omega arith in
    zeros-value bs ∙ ap (λ n. eqb n 0) e

module _ (plate : List ℕ) (at : ℕ) where
  abbrev left : List Bool
  left = (place_at plate at).left

  left-length : length left ≡ length plate * 8 - at
  unfolding place_at
  left-length = length-drop at (bytes_bits plate) ∙ ap (λ n. n - at) (length-bytes_bits plate)

  pub filling-byte : 8 ≤ length plate * 8 - at → false ≡ is_filling left
  filling-byte h = let l : 8 ≤ length left = omega (arith, left-length) in rw (le-ltb (length left) 8 l)

  module _ (n : ℕ) (all : n ≡ length plate * 8 - at) where
    pub filling-there : number_in n (drop at (bytes_bits plate)) ≡ None → ⊥
    unfolding place_at
    filling-there e = omega (arith, number-ends n (drop at (bytes_bits plate)) e, left-length)

    pub filling-value : (v : ℕ) → n < 8 → number_in n (drop at (bytes_bits plate)) ≡ Some v → eqb v 0 ≡ is_filling left
    unfolding place_at
    filling-value v few e =
        let short : length left < 8 = omega (arith, left-length) in
        let whole : v ≡ value_of left =
        number_is n (drop at (bytes_bits plate)) v e ∙ ap value_of (take_all n left (omega (arith, left-length))) in
        rw (lt-ltb (length left) 8 short) (ap (λ k. eqb k 0) whole ∙ sym (zeros-value left))

    -- by what is read of them
    pub filling-tested : n < 8 → (r : Option ℕ) → r ≡ number_in n (drop at (bytes_bits plate)) → {b : Bool}
        → MatchOption r (b ≡ false) (λ v. b ≡ eqb v 0) → b ≡ is_filling left
    filling-tested few None e m = absurd (filling-there (sym e))
    filling-tested few (Some v) e m = m ∙ filling-value v few (sym e)
