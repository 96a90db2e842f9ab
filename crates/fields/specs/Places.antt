-- What the code's answers stand for: a place of a plate by its bit, and the fields that are read there.
use Rattle.std.specs.Prelude.{ℕ, zero, suc, ◌≡◌, List, [], ◌∷◌, Bool, Result, Ok, Err, length, take, drop}
use Rattle.causes.specs.declared.Refusal.{Refusal}
use Rattle.causes.specs.declared.Cause.{Cause}
use Rattle.bits.specs.Bits.{value_of, bytes_bits}
use Rattle.text.specs.Text.{Text}
use Rattle.plate.specs.Reading.{Place, Read, got, stopped, Reader}
use Rattle.plate.specs.Plate.{characters}
use Rattle.fields.specs.declared.Field.{Field}

-- the place at a bit of a plate
unfoldable pub place_at : List ℕ → ℕ → Place
place_at plate at = record { left = drop at (bytes_bits plate); at = at }

-- a field that the code read: the value and the bit behind it, or a refusal
abbrev pub field_read : {A : Type 0} → List ℕ → Result (Field A) Refusal → Read A
field_read plate (Ok f) = got f.value (place_at plate f.next)
field_read plate (Err r) = stopped r.cause r.place

-- n characters of w bits from the front of the bits
unfoldable pub characters_in : ℕ → ℕ → List Bool → Text
characters_in w zero bs = []
characters_in w (suc n) bs = value_of (take w bs) ∷ characters_in w n (drop w bs)

-- "characters, ETX": all that stand at a place, of w bits each
abbrev pub until_etx : ℕ → Reader Text
until_etx w p = characters w (length p.left) p

-- a text that the code read from a bit on, by its size in characters of w bits
abbrev pub size_read : ℕ → List ℕ → ℕ → Result (Field ℕ) Refusal → Read Text
size_read w plate bit (Ok f) = got (characters_in w f.value (drop bit (bytes_bits plate))) (place_at plate f.next)
size_read w plate bit (Err r) = stopped r.cause r.place

-- what was read, by its size
abbrev pub measured : {A : Type 0} → (A → ℕ) → Read A → Read ℕ
measured size (got a q) = got (size a) q
measured size (stopped cause bit) = stopped cause bit

-- what was read, by the number n alone
abbrev pub end_with : {A : Type 0} → ℕ → Read A → Read ℕ
end_with n m = measured (λ a. n) m

-- the values that were read, one behind the other
abbrev pub values_of : {A : Type 0} → Read (List A) → List A
values_of (got xs q) = xs
values_of (stopped cause bit) = []

-- what is read is known to be no refusal
pub record Known {A : Type 0} (m : Read A) : Type 0 where
  pub good : {cause : Cause} {bit : ℕ} → stopped cause bit ≡ m → ⊥

-- how many values were read, one behind the other
abbrev pub count_read : {A : Type 0} → Read (List A) → Read ℕ
count_read m = measured length m
