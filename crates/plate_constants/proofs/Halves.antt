-- A number of 32 bits by its halves.
use Prim.Native.Nat.{ℕ, ◌+◌, ◌*◌, ◌≤◌}
use mathlib.Core.Path.{◌≡◌, ap, ◌∙◌}
use mathlib.Core.List.{List}
use mathlib.Core.Bool.{Bool}
use native.Mathlib.Omega.{arith}
use lib.ListN.{length, take, drop, length-drop}
use Rattle.bits.specs.Bits.{value_of}
use Rattle.bits.specs.Number.{number_in}
use Rattle.std.specs.Prelude.{Some, None}
use Rattle.bits.proofs.Turns.{value-cut}
use Rattle.bits.proofs.Reading.{number-in, number-none, number_fits, number-ends, number_is}

module _ (bs : List Bool) where
  pub halves_in : (high low : ℕ) → number_in 16 bs ≡ Some high → number_in 16 (drop 16 bs) ≡ Some low → number_in 32 bs ≡ Some (high * 65536 + low)
  halves_in high low e f =
      let long : 32 ≤ length bs = omega (arith, number_fits 16 bs high e, number_fits 16 (drop 16 bs) low f, length-drop 16 bs) in
      let cut = value-cut bs 32 16 (omega arith) long in
      let value : value_of (take 32 bs) ≡ high * 65536 + low = omega (arith, cut, number_is 16 bs high e, number_is 16 (drop 16 bs) low f) in
      number-in 32 bs long ∙ ap Some value

  pub first_ends : number_in 16 bs ≡ None → number_in 32 bs ≡ None
  first_ends e = number-none 32 bs (omega (arith, number-ends 16 bs e))

  pub second-ends : number_in 16 (drop 16 bs) ≡ None → number_in 32 bs ≡ None
  second-ends e = number-none 32 bs (omega (arith, number-ends 16 (drop 16 bs) e, length-drop 16 bs))
