-- The bytes of a written number are those of a text.
use Prim.Native.Nat.{ℕ, suc}
use mathlib.Core.Path.{◌≡◌, refl, ◌∙◌}
use mathlib.Core.Bool.{true, false}
use native.Mathlib.Omega.{arith}
use lib.Dec.{eqb}
use lib.IntN.{ℤ, pos, negsuc}
use borrow.Author.Tests.{le-leb, ne_eqb}
use Rattle.text.specs.Parts.{all, comma}
use Rattle.text.specs.Utf8.{well_formed, ascii}
use Rattle.text.specs.Text.{text_byte}
use Rattle.decimals.specs.Number.{is_digit, decimalℕ, decimal, minus}
use Rattle.text.proofs.Tests.{all_cons, all_so}
use Rattle.text.proofs.Letters.{well-ascii, well-ascii-first}
use Rattle.decimals.proofs.Decimals.{digit-bounds, natural-digits, decimalℕ-natural}

digit-text : (b : ℕ) → is_digit b ≡ true → text_byte b ≡ true
digit-text b h =
    let l = digit-bounds b h in
    let z : eqb b comma ≡ false = ne_eqb b comma (λ e. omega arith) in
    let y : eqb b 127 ≡ false = ne_eqb b 127 (λ e. omega arith) in
    rw (le-leb 32 b (omega arith), y, z)

pub decimalℕ-bytes : (n : ℕ) → all text_byte (decimalℕ n) ≡ true
decimalℕ-bytes n = all_so is_digit text_byte digit-text (decimalℕ n) (natural-digits (decimalℕ n) (decimalℕ-natural n))

pub decimal-bytes : (c : ℤ) → all text_byte (decimal c) ≡ true
unfolding decimal
decimal-bytes (pos n) = decimalℕ-bytes n
decimal-bytes (negsuc n) = all_cons text_byte minus (decimalℕ (suc n)) refl (decimalℕ-bytes (suc n))

digit-ascii : (b : ℕ) → is_digit b ≡ true → ascii b ≡ true
digit-ascii b h = let l = digit-bounds b h in le-leb b 0x7F (omega arith)

pub decimalℕ-letters : (n : ℕ) → well_formed (decimalℕ n) ≡ true
decimalℕ-letters n = well-ascii (decimalℕ n) (all_so is_digit ascii digit-ascii (decimalℕ n) (natural-digits (decimalℕ n) (decimalℕ-natural n)))

pub decimal-letters : (c : ℤ) → well_formed (decimal c) ≡ true
unfolding decimal
decimal-letters (pos n) = decimalℕ-letters n
decimal-letters (negsuc n) = well-ascii-first minus (omega arith) (decimalℕ (suc n)) ∙ decimalℕ-letters (suc n)
