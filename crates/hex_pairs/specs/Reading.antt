-- What reading a pair and reading a line answer.
use Rattle.std.specs.Prelude.{ℕ, ◌≡◌, List, [], ◌∷◌, Bool, true, false, Option, Some, None, Result, Ok, Err}
use Rattle.output.specs.Pour.{poured}
use Rattle.hex_pairs.specs.Pairs.{pairs_in}

-- a pair's byte in front of what follows; else a fault
abbrev pub on_byte : Option ℕ → List ℕ × Bool → List ℕ × Bool
on_byte (Some b) rest = (b ∷ rest.0, rest.1)
on_byte None rest = ([], false)

-- the bytes of a line's pairs are written behind the place at, and it is said whether the line has no fault
abbrev pub LineRead : ℕ → List ℕ → List ℕ → Result ℕ ℕ → List ℕ → Type 0
LineRead at line old (Ok end) new = ((end, new) ≡ poured at (pairs_in line).0 old) × ((pairs_in line).1 ≡ true)
LineRead at line old (Err end) new = ((end, new) ≡ poured at (pairs_in line).0 old) × ((pairs_in line).1 ≡ false)
