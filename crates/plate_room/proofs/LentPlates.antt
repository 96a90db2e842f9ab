-- A plate that was made in an array, in a lent buffer.
use Prim.Native.Nat.{ℕ, zero, suc, ◌+◌, ◌*◌, ◌≤◌}
use native.Mathlib.Omega.{arith}
use mathlib.Core.Path.{◌≡◌, refl, sym, ap, ap₂, ◌∙◌}
use mathlib.Core.List.{List, [], ◌∷◌, ◌++◌, append-nil}
use mathlib.Core.Bool.{Bool}
use lib.ListN.{length, take, drop}
use lib.Seq.{take_at, drop_at, length-take-le}
use Rattle.causes.specs.Answers as answers
use Rattle.std.specs.Prelude.{Ok, Err}
use Rattle.causes.specs.Answers.{made, refused, ◌>>=◌, wrote, refusing, output, lent}
use Rattle.causes.specs.declared.Refusal.{Refusal}
use Rattle.causes.proofs.Lent.{written, written-fits}
use Rattle.output.specs.Pour.{poured}
use Rattle.output.proofs.Pour.{pour-fits}
use Rattle.output.proofs.Poured.{stored}
use Rattle.bits.specs.Bits.{bits_of, bytes_bits, filled, bytes_of, pack}
use Rattle.bits.proofs.Bytes.{length-bytes_bits, length-pack, bytes-append, filled-whole}
use Rattle.bits.proofs.Numbers.{length-bits_of, value-of-bits}
use Rattle.plate.specs.Writing.{plate_sized}
use Rattle.plate_room.specs.Plates.{plate_room, room_answer, lent_bits}
use Rattle.plate_room.proofs.Plates.{Octets, room-is, room_fits, counted, leaves, by-room}

-- ---- what the code answers

-- that part of the array
pub array-part : (array : List ℕ) (bits lent : ℕ) {n : ℕ} → room_answer (plate_room bits lent) ≡ Ok n → length array ≡ 2953
    → (length (take n array) ≡ n) × (length (take n array) ≤ lent)
array-part array bits lent {n} e h =
    let k = room_fits bits lent e in
    let size : length (take n array) ≡ n = length-take-le n array (omega arith) in
    (size, omega (arith, k.2))

-- the bytes of the first bits of bytes
bytes-first : (n : ℕ) (bytes : List ℕ) → Octets bytes → n ≤ length bytes → bytes_of n (bytes_bits bytes) ≡ take n bytes
unfolding bytes_of bytes_bits
bytes-first zero bytes h k = refl
bytes-first (suc n) [] h k = absurd (omega arith)
bytes-first (suc n) (b ∷ bytes) h k =
    rw (take_at (bits_of 8 b) (bytes_bits bytes) 8 (length-bits_of 8 b), drop_at (bits_of 8 b) (bytes_bits bytes) 8 (length-bits_of 8 b))
    (ap₂ ◌∷◌ (value-of-bits 8 b (h 0)) (bytes-first n bytes (λ i. h (suc i)) (omega arith)))

module _ (array : List ℕ) (bits : ℕ) (buffer : List ℕ) where
  pub lent_none : {f : Refusal} → room_answer (plate_room bits (length buffer)) ≡ Err f
      → (refusing f.cause f.place, buffer) ≡ lent_bits (bytes_bits array) bits buffer
  unfolding lent_bits
  lent_none e = rw (room-is bits (length buffer) e)

  pub lent-copied : {n : ℕ} → room_answer (plate_room bits (length buffer)) ≡ Ok n → length array ≡ 2953 → Octets array
      → (copied : List ℕ) → copied ≡ take n array → (wrote n, copied ++ drop n buffer) ≡ lent_bits (bytes_bits array) bits buffer
  unfolding lent_bits
  lent-copied {n} e h o copied w =
      let part = array-part array bits (length buffer) e h in
      let fits = written-fits (made (take n array)) (take n array) buffer refl part.1 in
      let bytes = bytes-first n array o (omega (arith, (room_fits bits (length buffer) e).1)) in
      let answer : wrote n ≡ wrote (length (take n array)) = ap wrote (sym part.0) in
      let left : copied ++ drop n buffer ≡ take n array ++ drop (length (take n array)) buffer =
      rw w (ap (λ m. take n array ++ drop m buffer) (sym part.0)) in
      rw (room-is bits (length buffer) e, bytes) ((λ i. (answer i, left i)) ∙ sym fits)

-- ---- the array holds the plate

module _ (bs : List Bool) (old : List ℕ) {array : List Bool} {r : ℕ} (e : (r, array) ≡ poured 0 (filled bs) (bytes_bits old))
    (size : length old ≡ 2953) (buffer : List ℕ) where
  -- the bytes of the program's bits
  front : (n : ℕ) → n ≡ length (pack bs) → n ≤ 2953 → bytes_of n array ≡ pack bs
  unfolding bytes_of pack
  front n k few =
      let whole : length (filled bs) ≡ n * 8 = omega (arith, length-pack bs, filled-whole bs) in
      let fits : length (filled bs) ≤ length (bytes_bits old) = omega (arith, length-bytes_bits old) in
      let bits = stored 0 (filled bs) (bytes_bits old) r array e ∙ pour-fits (filled bs) (bytes_bits old) fits in
      let none : n + 0 ≡ n = omega arith in
      let first = rw none at (bytes-append n 0 (filled bs) (drop (length (filled bs)) (bytes_bits old)) whole) in
      ap (bytes_of n) bits ∙ first ∙ append-nil _ ∙ ap (λ m. bytes_of m (filled bs)) (k ∙ length-pack bs)

  pub lent-plate : lent_bits array r buffer ≡ written (plate_sized (pack bs)) buffer
  unfolding lent_bits
  lent-plate = go (plate_room r (length buffer)) refl ∙ sym (by-room bs (bytes_bits old) e buffer)
    where
      go : (o : answers.Result ℕ) → plate_room r (length buffer) ≡ o
          → lent (o >>= λ n. made (output (bytes_of n array))) buffer ≡ leaves bs (bytes_bits old) e buffer o
      go (made n) p =
          let k = room_fits r (length buffer) (ap room_answer p) in
          let n-is : n ≡ length (pack bs) = omega (arith, counted bs (bytes_bits old) e buffer, k.0, k.1) in
          rw (front n n-is k.1, n-is) (written-fits (made (pack bs)) (pack bs) buffer refl (omega (arith, k.2)))
      go (refused cause place) p = refl
