-- The characters of a plate that stand before ETX, or before a refusal.
use Rattle.std.specs.Prelude.{ℕ, ◌-◌, ◌/◌, List, Result, Ok, Err, drop}
use Rattle.bits.specs.Bits.{bytes_bits}
use Rattle.causes.specs.declared.Refusal.{Refusal}
use Rattle.text.specs.Text.{Text}
use Rattle.fields.specs.declared.Field.{Field}
use Rattle.fields.specs.Places.{characters_in}

-- how many characters of w bits were read from a bit on: the size that is answered, or all those before the refusal's bit
abbrev pub characters_read : ℕ → ℕ → Result (Field ℕ) Refusal → ℕ
characters_read w at (Ok f) = f.value
characters_read w at (Err r) = (r.place - at) / w

-- these characters
abbrev pub gathered : ℕ → List ℕ → ℕ → Result (Field ℕ) Refusal → Text
gathered w plate at r = characters_in w (characters_read w at r) (drop at (bytes_bits plate))
