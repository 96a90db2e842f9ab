-- What is known of the answers where the length of a transcript is bounded.
use Rattle.std.specs.Prelude.{ℕ, ◌<◌, List, get_or, ℤ, pos}
use Rattle.std.specs.Int.Signed.{mag}

-- each answer is a signed number of 32 bits
pub record Ranged (answers : List ℤ) : Type 0 where
  pub each : (i : ℕ) → mag (get_or answers i (pos 0)) < 2147483648
