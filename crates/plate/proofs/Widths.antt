-- The width of a character, and the bytes that it holds.
use Prim.Native.Nat.{ℕ, ◌^◌, ◌<◌}
use mathlib.Core.Path.{◌≡◌}
use mathlib.Core.Bool.{Bool, true}
use native.Mathlib.Omega.{arith}
use borrow.Author.Tests.{leb-true, le-leb}
use Rattle.text.specs.Utf8.{ascii}
use Rattle.text.proofs.Letters.{is_byte}

-- a character of w bits holds exactly the bytes that pass the test, ETX among them
pub record Holds (w : ℕ) (fits : ℕ → Bool) : Type 0 where
  pub some_bits : 0 < w
  pub etx : 3 < 2 ^ w
  pub below : (b : ℕ) → fits b ≡ true → b < 2 ^ w
  pub fitting : (b : ℕ) → b < 2 ^ w → fits b ≡ true

pub seven : Holds 7 ascii
seven =
    record {
      some_bits = omega arith;
      etx = omega arith;
      below = λ b h. omega (arith, leb-true b 0x7F h);
      fitting = λ b h. le-leb b 0x7F (omega arith);
    }

pub eight : Holds 8 is_byte
eight =
    record {
      some_bits = omega arith;
      etx = omega arith;
      below = λ b h. omega (arith, leb-true b 0xFF h);
      fitting = λ b h. le-leb b 0xFF (omega arith);
    }
