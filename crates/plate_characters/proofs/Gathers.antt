-- Characters of a plate that are judged, counted and copied in one pass.
use Prim.Native.Nat.{ℕ, ◌+◌, ◌-◌, ◌*◌, ◌/◌, ◌^◌, ◌≤◌, ◌<◌}
use mathlib.Core.Path.{◌≡◌, refl, sym, ap, ◌∙◌}
use mathlib.Core.List.{List, [], ◌∷◌}
use mathlib.Core.Bool.{Bool, true, false, cond, ◌||◌}
use native.Mathlib.Nat.{mul-div_cancel, le-mul_of_pos_right}
use native.Mathlib.Omega.{arith}
use lib.ListN.{length, take, drop, length-drop}
use lib.Seq.{take_at}
use lib.Dec.{eqb, leb}
use lib.Pow.{pow_mono}
use Rattle.causes.specs.declared.Cause.{Cause}
use Rattle.causes.specs.declared.Cause.TheVariants.{PlateEnds, Spelling}
use Rattle.causes.specs.declared.Refusal.{Refusal}
use Rattle.output.specs.Pour.{pour, poured}
use Rattle.output.proofs.Pour.{none, then, pour-fits}
use Rattle.output.proofs.Poured.{ended, stored}
use Rattle.bits.specs.Bits.{bytes_bits}
use Rattle.bits.proofs.Bytes.{length-bytes_bits}
use Rattle.bits.proofs.Numbers.{first_below}
use Rattle.text.specs.Text.{text_byte}
use Rattle.plate.specs.Writing.{ETX}
use Rattle.plate.specs.Reading.{Place, Read, got, stopped, number, judge, judge_read, judged}
use Rattle.plate.specs.Plate.{character}
use Rattle.std.specs.Prelude.{Err}
use Rattle.fields.specs.Places.{place_at, characters_in}
use Rattle.fields.proofs.Copies.{length-characters}
use Rattle.plate_characters.specs.Gathered.{gathered}
use Rattle.plate_characters.proofs.Characters.{SizeSoFar, size-start, size-longer, size-more, character-read}

-- the characters of `size` are counted, and copied to the front of the buffer
pub record GatherSoFar (w : ℕ) (plate : List ℕ) (at : ℕ) (old : List ℕ) (size : ℕ) (out : List ℕ) (bit : ℕ) : Type 0 where
  pub text : SizeSoFar w plate at size bit
  pub written : (size, out) ≡ poured 0 (characters_in w size (drop at (bytes_bits plate))) old

-- the bit of a refusal
abbrev stop_at : ℕ → Read ℕ → ℕ
stop_at d (got a q) = d
stop_at d (stopped cause bit) = bit

-- a character is refused at its first bit
refused-there : (w : ℕ) (p : Place) → stop_at p.at (character w p) ≡ p.at
unfolding judged number
refused-there w p = go (leb w (length p.left)) _ _
  where
    tested : (b : Bool) (a : ℕ) (q : Place) → stop_at p.at (judge b Spelling p.at (got a q)) ≡ p.at
    tested true a q = refl
    tested false a q = refl

    go : (b : Bool) (a : ℕ) (q : Place)
        → stop_at p.at (judge_read (λ c. eqb c ETX || text_byte c) Spelling p.at (cond b (got a q) (stopped PlateEnds p.at))) ≡ p.at
    go true a q = tested (eqb a ETX || text_byte a) a q
    go false a q = refl

stopped-there : (w : ℕ) (plate : List ℕ) (bit : ℕ) {cause : Cause} {b : ℕ} → stopped cause b ≡ character w (place_at plate bit) → b ≡ bit
unfolding place_at
stopped-there w plate bit e = ap (stop_at bit) e ∙ refused-there w (place_at plate bit)

module _ {w : ℕ} (some_bits : 0 < w) where
  pub gather-start : (plate : List ℕ) (at : ℕ) (old : List ℕ) → GatherSoFar w plate at old 0 old at
  unfolding characters_in
  gather-start plate at old = record { text = size-start some_bits plate at; written = none 0 old (omega arith) }

  module _ {plate : List ℕ} {at size bit : ℕ} {old out : List ℕ} (s : GatherSoFar w plate at old size out bit) where
    -- what is copied where a character is refused
    pub gather-refused : (r : Refusal) → stopped r.cause r.place ≡ character w (place_at plate bit)
        → out ≡ pour 0 (gathered w plate at (Err r)) old
    gather-refused r e =
        let bits : r.place - at ≡ size * w = omega (arith, stopped-there w plate bit e, s.text.place) in
        let count : size ≡ (r.place - at) / w = sym (ap (λ n. n / w) bits ∙ mul-div_cancel size some_bits) in
        stored 0 _ old size out s.written ∙ ap (λ n. pour 0 (characters_in w n (drop at (bytes_bits plate))) old) count

    module _ {c : ℕ} (next : ℕ) (e : got c (place_at plate next) ≡ character w (place_at plate bit)) where
      -- fewer characters than the plate has bits
      pub gather-few : size < length plate * 8
      gather-few =
          omega (arith, s.text.place, (character-read some_bits plate bit e).room, le-mul_of_pos_right size some_bits)

      -- a character is a byte
      pub gather-byte : w ≤ 8 → c < 256
      gather-byte few =
          let r = character-read some_bits plate bit e in
          let m : 2 ^ w ≤ 2 ^ 8 = pow_mono few in
          omega (arith, r.value, first_below w (drop bit (bytes_bits plate)) (omega (arith, r.room, length-drop bit (bytes_bits plate), length-bytes_bits plate)))

      pub gather-more : (c ≡ 3 → ⊥) → length plate ≤ 2953 → {x : ℕ} {last : List ℕ} → (x, last) ≡ poured size (c ∷ []) out
          → length old < 9223372036854775808 → GatherSoFar w plate at old x last next
      gather-more h short {x} {last} f l =
          let one : x ≡ size + 1 = omega (arith, ended size (c ∷ []) out x last f, gather-few) in
          let all = then 0 _ (c ∷ []) old size out (x, last) s.written f l in
          record {
            text = rw one (size-more some_bits s.text c next e h);
            written = all ∙ ap (λ t. poured 0 t old) (size-longer some_bits s.text c next e ∙ ap (λ n. characters_in w n (drop at (bytes_bits plate))) (sym one));
          }

-- the characters of a text that has room, at the front of the buffer
pub gathered-text : (w : ℕ) (plate : List ℕ) (at size : ℕ) (old last : List ℕ)
    → last ≡ pour 0 (characters_in w size (drop at (bytes_bits plate))) old → size ≤ length old
    → take size last ≡ characters_in w size (drop at (bytes_bits plate))
gathered-text w plate at size old last e room =
    let t = characters_in w size (drop at (bytes_bits plate)) in
    let l = length-characters w size (drop at (bytes_bits plate)) in
    ap (take size) (e ∙ pour-fits t old (omega (arith, l))) ∙ take_at t (drop (length t) old) size l
