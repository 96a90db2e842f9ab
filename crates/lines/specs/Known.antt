-- Fields that are known to be right.
use Rattle.std.specs.Prelude.{ℕ, ◌≤◌, ◌≡◌, List, [], true, get_or, Option, Some}
use Rattle.text.specs.Parts.{all}
use Rattle.decimals.specs.Number.{is_digit, value_from}

module _ {A : Type 0} where
  -- the first field has a value
  abbrev pub HasValue : (List ℕ → Option A) → List (List ℕ) → Type 0
  HasValue read fs = (v : A) × (read (get_or fs 0 []) ≡ Some v)

-- the first field is digits, and no number that a line has is greater
abbrev pub HasDigits : List (List ℕ) → Type 0
HasDigits fs = (all is_digit (get_or fs 0 []) ≡ true) × (value_from 0 (get_or fs 0 []) ≤ 2147483648)
