-- The fields of an if that is known to be good: each is a part of bits that are read ahead.
use Prim.Native.Nat.{ℕ, zero, suc, ◌+◌, ◌*◌, ◌-◌, ◌≤◌}
use mathlib.Core.Path.{◌≡◌, refl, sym, ap, ◌∙◌}
use mathlib.Core.List.{List}
use native.Mathlib.Omega.{arith}
use lib.ListN.{length, drop, length-drop}
use lib.Seq.{drop-drop}
use lib.IntN.{ℤ}
use lib.Dec.{ltb}
use Rattle.bits.specs.Bits.{bytes_bits}
use Rattle.bits.specs.Ahead.{ahead_in, part_ahead}
use Rattle.bits.specs.Number.{number_in}
use Rattle.std.specs.Prelude.{Some}
use Rattle.bits.proofs.Bytes.{length-bytes_bits}
use Rattle.bits.proofs.Reading.{number-in}
use Rattle.bits_ahead.proofs.Ahead.{part-value}
use Rattle.transcript.specs.declared.Op.{Op}
use Rattle.phrases.specs.Phrases.{Phrases}
use Rattle.plate.specs.Program.{if_skip}
use Rattle.causes.specs.declared.Cause.TheVariants.{Unused}
use Rattle.plate.specs.Reading.{got, number, judged, return}
use Rattle.plate.specs.Plate.{signed, op_of, test, constant, constant_by, fields_by}
use Rattle.fields.specs.Places.{place_at, Known}
use Rattle.fields.proofs.Onward.{then-got, number-there}
use Rattle.fields.proofs.Ahead.{known-room}
use Rattle.plate_constants.proofs.Halves.{halves_in}
use Rattle.plate_texts.proofs.Known.{known_same, known-first, known-then, known-judged}
use Rattle.instructions.proofs.HeadRead.{skip_read}
use Rattle.fields.proofs.Ahead.{part-read}

-- ---- a number of 32 bits, whose halves are read ahead

module _ (plate : List ℕ) (at : ℕ) {near far : ℕ} (e : near ≡ ahead_in plate at) (f : far ≡ ahead_in plate (at + 16)) where
  -- 16 bits that are there are a part of what is read ahead
  half : (bit : ℕ) {ahead : ℕ} → ahead ≡ ahead_in plate bit → 16 ≤ length plate * 8 - bit
      → number_in 16 (drop bit (bytes_bits plate)) ≡ Some (part_ahead 0 16 ahead)
  half bit {ahead} a room =
      let z : bit + 0 ≡ bit = omega arith in
      let enough : 16 ≤ length (drop bit (bytes_bits plate)) = omega (arith, length-drop bit (bytes_bits plate), length-bytes_bits plate) in
      let value = ap (part_ahead 0 16) a ∙ part-value plate bit 0 16 (omega arith) (omega arith) in
      number-in 16 (drop bit (bytes_bits plate)) enough ∙ ap Some (sym (rw z at value))

  halves-read : Known (number 32 (place_at plate at))
      → got (part_ahead 0 16 near * 65536 + part_ahead 0 16 far) (place_at plate (at + 32)) ≡ number 32 (place_at plate at)
  halves-read known =
      let room = known-room plate at 32 known in
      let second = half (at + 16) f (omega arith) in
      let behind : drop 16 (drop at (bytes_bits plate)) ≡ drop (at + 16) (bytes_bits plate) = drop-drop 16 at (bytes_bits plate) in
      number-there plate at 32 _ (halves_in (drop at (bytes_bits plate)) _ _ (half at e (omega arith)) (rw behind second))

-- ---- the test

module _ (plate : List ℕ) (at : ℕ) {ahead far : ℕ} (e : ahead ≡ ahead_in plate at) (f : far ≡ ahead_in plate (at + 13)) where
  -- a constant of 16 bits
  short-constant : part_ahead 11 2 ahead ≡ 0 → Known (constant (place_at plate (at + 11)))
      → got (signed 16 (part_ahead 0 16 far)) (place_at plate (at + 29)) ≡ constant (place_at plate (at + 11))
  unfolding constant return
  short-constant short u =
      let code = known-judged _ _ _ plate (at + 11) (known-first _ _ _ u) in
      let zero = part-read plate at e 11 2 (omega arith) (sym short) (at + 11) (at + 13) refl (omega arith) (known_same code (known-first _ _ _ u)) ∙ code in
      let far-known = known-first _ _ _ (known-then _ _ _ u zero) in
      let last = part-read plate (at + 13) f 0 16 (omega arith) refl (at + 13) (at + 29) (omega arith) (omega arith) far-known in
      then-got _ _ _ last ∙ then-got _ _ _ zero

  -- a constant of 32 bits
  long-constant : (part_ahead 11 2 ahead ≡ 0 → ⊥) → Known (constant (place_at plate (at + 11)))
      → got (signed 32 (part_ahead 0 16 far * 65536 + part_ahead 0 16 (ahead_in plate (at + 29)))) (place_at plate (at + 45))
      ≡ constant (place_at plate (at + 11))
  unfolding constant return
  long-constant long u =
      let code = known-judged _ _ _ plate (at + 11) (known-first _ _ _ u) in
      let one = part-read plate at e 11 2 (omega arith) refl (at + 11) (at + 13) refl (omega arith) (known_same code (known-first _ _ _ u)) ∙ code in
      go (part_ahead 11 2 ahead) long one (known-then _ _ _ u one)
    where
      go : (k : ℕ) → (k ≡ 0 → ⊥) → got k (place_at plate (at + 13)) ≡ judged (number 2) (λ k. ltb k 2) Unused (place_at plate (at + 11))
          → Known (constant_by k (place_at plate (at + 13)))
          → got (signed 32 (part_ahead 0 16 far * 65536 + part_ahead 0 16 (ahead_in plate (at + 29)))) (place_at plate (at + 45))
          ≡ constant (place_at plate (at + 11))
      go zero h one w = absurd (h refl)
      go (suc k) h one w =
          let j = known-judged _ _ _ plate (at + 13) w in
          let half : at + 13 + 16 ≡ at + 29 = omega arith in
          let end : at + 13 + 32 ≡ at + 45 = omega arith in
          let n = halves-read plate (at + 13) f refl (known-first _ _ _ (known_same j w)) in
          then-got _ _ _ (rw (half, end) at n) ∙ j ∙ then-got _ _ _ one

  module _ {r : ℕ} {o : Op} {z : ℤ} (end : ℕ) (er : r ≡ part_ahead 3 5 ahead) (eo : o ≡ op_of (part_ahead 8 3 ahead))
      (ez : Known (constant (place_at plate (at + 11))) → got z (place_at plate end) ≡ constant (place_at plate (at + 11))) where
    -- the fields in front of the skip
    test_parts : Known (test (place_at plate (at + 3)))
        → got (record { register = r; op = o; constant = z }) (place_at plate end) ≡ test (place_at plate (at + 3))
    unfolding test return
    test_parts w =
        let one = part-read plate at e 3 5 (omega arith) er (at + 3) (at + 8) refl (omega arith) (known-first _ _ _ w) in
        let v = known-then _ _ _ w one in
        let op = known-judged _ _ _ plate (at + 8) (known-first _ _ _ v) in
        let two = part-read plate at e 8 3 (omega arith) refl (at + 8) (at + 11) refl (omega arith) (known_same op (known-first _ _ _ v)) ∙ op in
        let u = known-first _ _ _ (known-then _ _ _ v two) in
        (λ i. got (record { register = r; op = eo i; constant = z }) (place_at plate end))
        ∙ then-got _ _ _ (ez u) ∙ then-got _ _ _ two ∙ then-got _ _ _ one

    -- all of them; the skip is read ahead from a bit on
    if-parts : (bit k last : ℕ) {skip : ℕ} → bit + k ≡ end → last ≡ end + 9 → k + 9 ≤ 25 → skip ≡ part_ahead k 9 (ahead_in plate bit)
        → (c : Phrases) (behind : ℕ) → Known (fields_by c behind 5 (place_at plate (at + 3)))
        → got (if_skip (record { register = r; op = o; constant = z }) skip) (place_at plate last) ≡ fields_by c behind 5 (place_at plate (at + 3))
    unfolding return
    if-parts bit k last b l few ek c behind w =
        let t = test_parts (known-first _ _ _ w) in
        let u = known-first _ _ _ (known-then _ _ _ w t) in
        let s = skip_read behind plate end u in
        then-got _ _ _ (part-read plate bit refl k 9 few ek end last (sym b) (omega arith) (known_same s u) ∙ s) ∙ then-got _ _ _ t

  module _ {r : ℕ} {o : Op} {z : ℤ} {k : ℕ} (er : r ≡ part_ahead 3 5 ahead) (eo : o ≡ op_of (part_ahead 8 3 ahead)) where
    pub if-short : part_ahead 11 2 ahead ≡ 0 → z ≡ signed 16 (part_ahead 0 16 far) → k ≡ part_ahead 16 9 far
        → (c : Phrases) (behind : ℕ) → Known (fields_by c behind 5 (place_at plate (at + 3)))
        → got (if_skip (record { register = r; op = o; constant = z }) k) (place_at plate (at + 38)) ≡ fields_by c behind 5 (place_at plate (at + 3))
    if-short short ez ek =
        if-parts (at + 29) er eo (λ u. ap (λ x. got x (place_at plate (at + 29))) ez ∙ short-constant short u) (at + 13) 16 (at + 38) (omega arith) (omega arith) (omega arith) (ek ∙ ap (part_ahead 16 9) f)

    pub if-long : (part_ahead 11 2 ahead ≡ 0 → ⊥) → {high : ℕ} (last : ℕ) → high ≡ part_ahead 0 16 far
        → z ≡ signed 32 (high * 65536 + part_ahead 0 16 (ahead_in plate (at + 29))) → k ≡ part_ahead 16 9 (ahead_in plate (at + 29)) → last ≡ at + 54
        → (c : Phrases) (behind : ℕ) → Known (fields_by c behind 5 (place_at plate (at + 3)))
        → got (if_skip (record { register = r; op = o; constant = z }) k) (place_at plate last) ≡ fields_by c behind 5 (place_at plate (at + 3))
    if-long long last eh ez ek el =
        if-parts (at + 45) er eo (λ u. ap (λ x. got x (place_at plate (at + 45))) (ez ∙ ap (λ x. signed 32 (x * 65536 + part_ahead 0 16 (ahead_in plate (at + 29)))) eh) ∙ long-constant long u) (at + 29) 16 last (omega arith) (omega arith) (omega arith) ek
