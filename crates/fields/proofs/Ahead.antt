-- A number that is known to stand behind a bit whose 25 bits were read ahead: a part of these.
use Prim.Native.Nat.{ℕ, ◌+◌, ◌-◌, ◌*◌, ◌^◌, ◌≤◌, ◌<◌}
use mathlib.Core.Path.{◌≡◌, refl, sym, ap, subst, ◌∙◌}
use mathlib.Core.List.{List}
use mathlib.Core.Bool.{Bool, true, false}
use native.Mathlib.Omega.{arith}
use native.Mathlib.Nat.{mod-lt}
use lib.Pow.{pow_pos}
use lib.ListN.{length, drop, length-drop}
use lib.Dec.{leb}
use borrow.Author.Tests.{leb-true}
use Rattle.causes.specs.declared.Cause.TheVariants.{PlateEnds}
use Rattle.bits.specs.Bits.{bytes_bits}
use Rattle.bits.specs.Ahead.{ahead_in, part_ahead}
use Rattle.std.specs.Prelude.{Some}
use Rattle.bits.proofs.Bytes.{length-bytes_bits}
use Rattle.bits.proofs.Reading.{number-in}
use Rattle.bits_ahead.proofs.Ahead.{part-value}
use Rattle.plate.specs.Reading.{got, number}
use Rattle.fields.specs.Places.{place_at, Known}
use Rattle.fields.proofs.Onward.{number-there}

-- a number that is known has all its bits
pub known-room : (plate : List ℕ) (at w : ℕ) → Known (number w (place_at plate at)) → w ≤ length plate * 8 - at
unfolding place_at number
known-room plate at w known = go (leb w (length (drop at (bytes_bits plate)))) refl
  where
    go : (v : Bool) → leb w (length (drop at (bytes_bits plate))) ≡ v → w ≤ length plate * 8 - at
    go true e = omega (arith, leb-true w (length (drop at (bytes_bits plate))) e, length-drop at (bytes_bits plate), length-bytes_bits plate)
    go false e = absurd (known.good {cause = PlateEnds} {bit = at} (rw e refl))

-- it is the part of what was read ahead, k bits behind its first
pub known-part : (plate : List ℕ) (ahead at k w : ℕ) → ahead ≡ ahead_in plate at → k + w ≤ 25 → Known (number w (place_at plate (at + k)))
    → number w (place_at plate (at + k)) ≡ got (part_ahead k w ahead) (place_at plate (at + k + w))
known-part plate ahead at k w e few known =
    let room = known-room plate (at + k) w known in
    let bits = drop (at + k) (bytes_bits plate) in
    let enough : w ≤ length bits = omega (arith, room, length-drop (at + k) (bytes_bits plate), length-bytes_bits plate) in
    let value = ap (part_ahead k w) e ∙ part-value plate at k w few room in
    sym (number-there plate (at + k) w (part_ahead k w ahead) (number-in w bits enough ∙ ap Some (sym value)))

-- the same, where it is told by its bit and the bit behind it
module _ (plate : List ℕ) (at : ℕ) {ahead : ℕ} (e : ahead ≡ ahead_in plate at) (k w : ℕ) (fits : k + w ≤ 25) where
  pub part-read : {v : ℕ} → v ≡ part_ahead k w ahead → (bit next : ℕ) → bit ≡ at + k → next ≡ at + k + w → Known (number w (place_at plate bit))
      → got v (place_at plate next) ≡ number w (place_at plate bit)
  part-read p bit next b n known =
      let there = subst (λ i. Known (number w (place_at plate i))) b known in
      (λ i. got (p i) (place_at plate (n i))) ∙ sym (known-part plate ahead at k w e fits there) ∙ ap (λ i. number w (place_at plate i)) (sym b)

-- a part has no more bits
pub part-below : (k w ahead : ℕ) {v : ℕ} → v ≡ part_ahead k w ahead → v < 2 ^ w
unfolding part_ahead
part-below k w ahead e = rw e (mod-lt _ (pow_pos w))
