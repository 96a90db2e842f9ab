-- What writing leaves in a lent buffer, of bytes or of bits.
use Rattle.std.specs.Prelude.{ℕ, zero, suc, ◌+◌, min, List, [], ◌∷◌, length}

-- a place, as far as a 64-bit number counts
abbrev pub up_to : ℕ → ℕ
up_to n = min n 18446744073709551615

module _ {A : Type 0} where
  -- the new elements in place of those from a place on, as far as the buffer goes
  unfoldable pub pour : ℕ → List A → List A → List A
  pour at new [] = []
  pour zero [] (b ∷ old) = b ∷ old
  pour zero (a ∷ new) (b ∷ old) = a ∷ pour zero new old
  pour (suc at) new (b ∷ old) = b ∷ pour at new old

  -- the place behind what is written, and the buffer with it
  unfoldable pub poured : ℕ → List A → List A → ℕ × List A
  poured at new old = (up_to (at + length new), pour at new old)
