-- The first bit of a plate, which says whether it has own phrases.
use Prim.Native.Nat.{ℕ, ◌*◌, ◌/◌, ◌%◌, ◌≤◌, ◌<◌}
use mathlib.Core.Path.{◌≡◌, refl, sym, ap, ◌∙◌}
use mathlib.Core.List.{List, [], ◌∷◌}
use mathlib.Core.Bool.{Bool, true, false}
use native.Mathlib.Omega.{arith}
use lib.ListN.{length, get_or}
use lib.Dec.{leb, eqb}
use borrow.Author.Tests.{leb-true, leb-false, eq-eqb, ne_eqb, le-leb}
use denote.Bor.{Bor}
use Rattle.std.specs.Prelude.{Option, Some, None, MatchOption, slice_get}
use Rattle.std.specs.Option.{option_copied}
use Rattle.std.proofs.lemmas.Option.{none-some, same_Some}
use Rattle.bits.specs.Bits.{bits_of, bytes_bits, value_of}
use Rattle.plate.specs.Reading.{Place, got, number, return, onward, ◌>>=◌}
use Rattle.plate.specs.Plate.{own_count_by, own_count}
use Rattle.fields.specs.Places.{place_at}
use Rattle.reader.specs.Own.{has_own, OwnRoom}

-- a byte from 128 on begins with the bit 1
pub first_bit : (plate : List ℕ) → get_or plate 0 0 < 256 → leb 128 (get_or plate 0 0) ≡ has_own plate
unfolding has_own bytes_bits bits_of
first_bit [] h = refl
first_bit (b ∷ bs) h = go (leb 128 b) refl
  where
    go : (t : Bool) → leb 128 b ≡ t → leb 128 b ≡ eqb (b / 128 % 2) 1
    go true e = e ∙ sym (eq-eqb (b / 128 % 2) 1 (omega (arith, leb-true 128 b e)))
    go false e = e ∙ sym (ne_eqb (b / 128 % 2) 1 (λ z. omega (arith, leb-false 128 b e)))

-- a plate of no bytes has no first bit
pub first-none : (plate : List ℕ) → length plate ≡ 0 → false ≡ has_own plate
unfolding has_own bytes_bits
first-none [] h = refl
first-none (b ∷ bs) h = absurd (omega arith)

-- by what is found of the first byte
pub first-tested : (plate : List ℕ) → get_or plate 0 0 < 256 → (o : Option (Bor ℕ)) → option_copied o ≡ slice_get plate 0 → {r : Bool}
    → MatchOption o (r ≡ false) (λ x. r ≡ leb 128 x.now) → r ≡ has_own plate
first-tested [] small None e m = m ∙ first-none [] refl
first-tested [] small (Some x) e m = absurd (none-some x.now (sym e))
first-tested (b ∷ plate) small None e m = absurd (none-some b e)
first-tested (b ∷ plate) small (Some x) e m = m ∙ ap (leb 128) (same_Some _ _ e) ∙ first_bit (b ∷ plate) small

-- no own phrases behind a bit of 0
none-counted : (bs : List Bool) {n : ℕ} {q : Place} → get_or bs 0 false ≡ false
    → got n q ≡ onward (number 1 (record { left = bs; at = 0 })) own_count_by → n ≡ 0
unfolding number return value_of
none-counted [] h e = let z : ◌≡◌ {A = ℕ} 0 1 = cc in absurd (omega arith)
none-counted (true ∷ bs) h e = let z : ◌≡◌ {A = ℕ} 0 1 = cc in absurd (omega arith)
none-counted (false ∷ bs) {n} {q} h e =
    let bits : List Bool = false ∷ bs in
    let read : got n q ≡ got 0 (record { left = bs; at = 1 }) = rw (le-leb 1 (length bits) (omega arith)) at e in
    cc

-- so many own phrases have room
pub counted-room : (plate own : List ℕ) {n : ℕ} {q : Place} → OwnRoom plate own → got n q ≡ own_count (place_at plate 0) → n ≤ 32
    → 72 * n ≤ length own
unfolding has_own own_count place_at ◌>>=◌
counted-room plate own {n} room e few = go (has_own plate) refl
  where
    go : (t : Bool) → has_own plate ≡ t → 72 * n ≤ length own
    go true h = omega (arith, room h)
    go false h = omega (arith, none-counted (bytes_bits plate) h e)

-- a plate without own phrases needs no room
pub none-room : (plate own : List ℕ) {r : Bool} → r ≡ has_own plate → r ≡ false → OwnRoom plate own
none-room plate own e f h = let z : ◌≡◌ {A = ℕ} 0 1 = cc in absurd (omega arith)
