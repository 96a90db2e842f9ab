-- The bit behind a number that was read.
use Prim.Native.Nat.{ℕ, ◌+◌, ◌-◌, ◌*◌, ◌≤◌}
use mathlib.Core.Path.{◌≡◌, sym, ap, ◌∙◌}
use mathlib.Core.List.{List}
use mathlib.Core.Bool.{Bool}
use native.Mathlib.Omega.{arith}
use lib.ListN.{length, take, drop, length-drop}
use Rattle.causes.specs.declared.Cause.{Cause}
use Rattle.bits.specs.Bits.{value_of, bytes_bits}
use Rattle.bits.proofs.Bytes.{length-bytes_bits}
use Rattle.bits.proofs.Reading.{number-in}
use Rattle.plate.specs.Reading.{Place, got, number, judged}
use Rattle.fields.specs.Places.{place_at}
use Rattle.fields.proofs.Onward.{number-there}
use Rattle.plate_characters.proofs.TextCopy.{got-known}
use Rattle.fields.proofs.Ahead.{known-room}
use Rattle.plate_texts.proofs.Known.{known-judged}

module _ (plate : List ℕ) (at w : ℕ) where
  -- a number ends as many bits further on
  number_behind : (v : ℕ) (q : Place) → got v q ≡ number w (place_at plate at) → q ≡ place_at plate (at + w)
  number_behind v q e =
      let bits = drop at (bytes_bits plate) in
      let room = known-room plate at w (got-known e) in
      let enough : w ≤ length bits = omega (arith, room, length-drop at (bytes_bits plate), length-bytes_bits plate) in
      let same : got v q ≡ got (value_of (take w bits)) (place_at plate (at + w)) = e ∙ sym (number-there plate at w _ (number-in w bits enough)) in
      cc

  module _ (test : ℕ → Bool) (cause : Cause) (v : ℕ) (q : Place) (e : got v q ≡ judged (number w) test cause (place_at plate at)) where
    plain : got v q ≡ number w (place_at plate at)
    plain = e ∙ sym (known-judged (number w) test cause plate at (got-known e))

    -- and so does one that was judged
    pub judged-behind : q ≡ place_at plate (at + w)
    judged-behind = number_behind v q plain

    -- its bits are there
    pub judged-room : w ≤ length plate * 8 - at
    judged-room = known-room plate at w (got-known plain)

-- the bit for book or own, behind the two bits of a code
module _ (plate : List ℕ) (at : ℕ) where
  pub bit-read : (b : ℕ) (q : Place) → got b q ≡ number 1 (place_at plate (at + 2))
      → got b (place_at plate (at + 3)) ≡ number 1 (place_at plate (at + 2))
  bit-read b q e =
      let three : at + 3 ≡ at + 2 + 1 = omega arith in
      ap (λ k. got b (place_at plate k)) three ∙ ap (got b) (sym (number_behind plate (at + 2) 1 b q e)) ∙ e
