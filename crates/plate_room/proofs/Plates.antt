-- From the bits that are written to the plate in a lent buffer: the filling behind them, and the room that they take.
use Prim.Native.Nat.{ℕ, ◌+◌, ◌-◌, ◌*◌, ◌/◌, ◌%◌, ◌≤◌, ◌<◌}
use native.Mathlib.Omega.{arith}
use mathlib.Core.Path.{◌≡◌, refl, sym, ap, ◌∙◌}
use mathlib.Core.List.{List, ◌++◌}
use mathlib.Core.Bool.{Bool, true, false, cond}
use lib.ListN.{length, drop, get_or, length-append}
use lib.Dec.{leb, ltb}
use borrow.Author.Tests.{ltb-true, ltb-false, leb-true, leb-false, le-leb, lt-leb}
use Rattle.causes.specs.Answers as answers
use Rattle.std.specs.Prelude.{Result, Ok, Err}
use Rattle.causes.specs.declared.Refusal.{Refusal}
use Rattle.causes.specs.Answers.{made, refused, Answer, wrote, refusing}
use Rattle.causes.specs.declared.Cause.TheVariants.{PlateTooLong, TooShort}
use Rattle.causes.proofs.Lent.{written}
use Rattle.causes.proofs.Results.{never}
use Rattle.output.specs.Pour.{up_to, pour, poured}
use Rattle.output.proofs.Pour.{pour-length, pour-past, pour-then}
use Rattle.output.proofs.Poured.{ended}
use Rattle.bits.specs.Bits.{bits_of, bytes_bits, filled, pack}
use Rattle.bits.proofs.Bytes.{length-bytes_bits, length-pack, filled-whole}
use Rattle.bits_out.proofs.Writing.{fill}
use Rattle.plate.specs.Writing.{plate_sized}
use Rattle.plate_room.specs.Plates.{plate_room, room_answer}
use Rattle.text_bits.proofs.Writes.{both}

-- ---- the filling

-- what comes behind more bits than are counted changes nothing
uncounted : (a b c old : List Bool) → 18446744073709551615 ≤ length a → length old ≤ length a → poured 0 (a ++ b) old ≡ poured 0 (a ++ c) old
unfolding poured
uncounted a b c old h k =
    let counted : up_to (0 + length (a ++ b)) ≡ up_to (0 + length (a ++ c)) = omega (arith, length-append a b, length-append a c) in
    let stored : pour 0 (a ++ b) old ≡ pour 0 (a ++ c) old = sym (same b) ∙ same c in
    λ i. (counted i, stored i)
  where
    same : (d : List Bool) → pour 0 a old ≡ pour 0 (a ++ d) old
    same d = sym (pour-past (0 + length a) d (pour 0 a old) (omega (arith, pour-length 0 a old))) ∙ pour-then 0 a d old

-- bits, and behind them the zero bits that fill the last byte
pub filling : {x : ℕ} {mid : List Bool} {last : ℕ × List Bool} (bs : List Bool) (old : List ℕ) → (x, mid) ≡ poured 0 bs (bytes_bits old)
    → last ≡ poured x (bits_of ((8 - x % 8) % 8) 0) mid → length old ≤ 2953 → last ≡ poured 0 (filled bs) (bytes_bits old)
unfolding filled
filling {x} {mid} {last} bs old e f h = go (ltb x 18446744073709551615) refl
  where
    go : (v : Bool) → ltb x 18446744073709551615 ≡ v → last ≡ poured 0 (filled bs) (bytes_bits old)
    go true v = fill bs (bytes_bits old) x mid last e f (ltb-true _ _ v)
    go false v =
        let far = ltb-false x 18446744073709551615 v in
        let n = ended 0 bs (bytes_bits old) x mid e in
        both 0 bs _ old e f h ∙ uncounted bs _ _ (bytes_bits old) (omega arith) (omega (arith, length-bytes_bits old))

-- ---- the bytes that a buffer has room for

-- what an answer says
abbrev room_in : Result ℕ Refusal → answers.Result ℕ
room_in (Ok n) = made n
room_in (Err f) = refused f.cause f.place

room_back : (o : answers.Result ℕ) → o ≡ room_in (room_answer o)
room_back (made n) = refl
room_back (refused cause place) = refl

pub room-is : (bits lent : ℕ) {r : Result ℕ Refusal} → room_answer (plate_room bits lent) ≡ r → plate_room bits lent ≡ room_in r
room-is bits lent e = room_back (plate_room bits lent) ∙ ap room_in e

-- no more bytes than a plate has, and no more than there are
pub room_fits : (bits lent : ℕ) {n : ℕ} → room_answer (plate_room bits lent) ≡ Ok n → (n ≡ bits / 8) × (n ≤ 2953) × (n ≤ lent)
unfolding plate_room
room_fits bits lent {n} e = go (leb (bits / 8) 2953) refl (leb (bits / 8) lent) refl (room-is bits lent e)
  where
    go : (v : Bool) → leb (bits / 8) 2953 ≡ v → (w : Bool) → leb (bits / 8) lent ≡ w
        → cond v (cond w (made (bits / 8)) (refused TooShort 0)) (refused PlateTooLong 0) ≡ made n → (n ≡ bits / 8) × (n ≤ 2953) × (n ≤ lent)
    go true v true w e =
        let same : bits / 8 ≡ n = cc in
        (sym same, omega (arith, leb-true (bits / 8) 2953 v), omega (arith, leb-true (bits / 8) lent w))
    go true v false w e = absurd (never e)
    go false v w f e = absurd (never e)

-- ---- the plate in the lent buffer

-- bytes
abbrev pub Octets : List ℕ → Type 0
Octets bs = (i : ℕ) → get_or bs i 0 < 256

-- r bits were counted
module _ (bs old : List Bool) {r : ℕ} {x : List Bool} (dry : (r, x) ≡ poured 0 (filled bs) old) (buffer : List ℕ) where
  pub counted : r ≡ up_to (length (pack bs) * 8)
  counted = omega (arith, ended 0 (filled bs) old r x dry, length-pack bs, filled-whole bs)

  -- what a room leaves of the plate in the buffer
  abbrev pub leaves : answers.Result ℕ → Answer × List ℕ
  leaves (made n) = (wrote n, pack bs ++ drop n buffer)
  leaves (refused cause place) = (refusing cause place, buffer)

  pub by-room : written (plate_sized (pack bs)) buffer ≡ leaves (plate_room r (length buffer))
  unfolding plate_room
  by-room = go (leb (r / 8) 2953) refl
    where
      go : (v : Bool) → leb (r / 8) 2953 ≡ v → written (plate_sized (pack bs)) buffer
          ≡ leaves (cond v (cond (leb (r / 8) (length buffer)) (made (r / 8)) (refused TooShort 0)) (refused PlateTooLong 0))
      go true v =
          let few = leb-true (r / 8) 2953 v in
          let n : r / 8 ≡ length (pack bs) = omega (arith, counted) in
          rw (n, le-leb (length (pack bs)) 2953 (omega arith)) (fits (leb (length (pack bs)) (length buffer)))
        where
          fits : (w : Bool) → cond w (wrote (length (pack bs)), pack bs ++ drop (length (pack bs)) buffer) (refusing TooShort 0, buffer)
              ≡ leaves (cond w (made (length (pack bs))) (refused TooShort 0))
          fits true = refl
          fits false = refl
      go false v = rw (lt-leb (length (pack bs)) 2953 (omega (arith, counted, leb-false (r / 8) 2953 v)))
