-- The bytes of texts: allowed, no comma and no LF.
use Prim.Native.Nat.{ℕ, ◌≤◌, ◌<◌}
use mathlib.Core.Path.{◌≡◌}
use mathlib.Core.Bool.{true, false, not, ◌&&◌}
use native.Mathlib.Omega.{arith}
use lib.ListN.{length}
use lib.Dec.{leb, eqb}
use borrow.Author.Tests.{leb-true, le-leb, lt-leb, ne_eqb}
use Rattle.text.specs.Parts.{all, LF, comma}
use Rattle.text.specs.Utf8.{well_formed}
use Rattle.text.specs.Text.{Text, allowed, text_byte, text_size, is_text}
use Rattle.text.proofs.Tests.{and_parts, and_both, in-range}
use Rattle.text.proofs.Splits.{other}
use Rattle.text.proofs.Valid.{TextOk}

module _ (b : ℕ) where
  pub text-allowed : text_byte b ≡ true → allowed b ≡ true
  text-allowed h = (and_parts (allowed b) (other comma b) h).0

  pub text-no-comma : text_byte b ≡ true → other comma b ≡ true
  text-no-comma h = (and_parts (allowed b) (other comma b) h).1

  pub allowed-above : allowed b ≡ true → 32 ≤ b
  allowed-above h = leb-true 32 b (and_parts (leb 32 b) (not (eqb b 127)) h).0

  pub allowed-no-LF : allowed b ≡ true → other LF b ≡ true
  allowed-no-LF h = let l = allowed-above h in rw (ne_eqb b LF (λ e. omega arith))

  pub text-no-LF : text_byte b ≡ true → other LF b ≡ true
  text-no-LF h = allowed-no-LF (text-allowed h)

-- what a text is made of: its size, such bytes, and whole letters
module _ (t : Text) where
  pub text_of : text_size t ≡ true → all text_byte t ≡ true → well_formed t ≡ true → TextOk t
  unfolding is_text
  text_of h k w = and_both (and_both h k) w

  pub text-tests : TextOk t → (text_size t ≡ true) × (all text_byte t ≡ true) × (well_formed t ≡ true)
  unfolding is_text
  text-tests h =
      let a = and_parts (text_size t && all text_byte t) (well_formed t) h in
      let b = and_parts (text_size t) (all text_byte t) a.0 in
      (b.0, b.1, a.1)

  pub text-bytes : TextOk t → all text_byte t ≡ true
  text-bytes h = (text-tests h).1

  pub text-letters : TextOk t → well_formed t ≡ true
  text-letters h = (text-tests h).2

  pub text-size : TextOk t → (1 ≤ length t) × (length t ≤ 64)
  text-size h = in-range 1 (length t) 64 (text-tests h).0

-- ---- whether bytes are a text

module _ (s : Text) where
  pub text-none : length s ≡ 0 → is_text s ≡ false
  unfolding is_text
  text-none h = rw h

  pub text-long : 64 < length s → is_text s ≡ false
  unfolding is_text
  text-long h = rw (le-leb 1 (length s) (omega arith), lt-leb (length s) 64 h)

  pub text-sized : (length s ≡ 0 → ⊥) → length s ≤ 64 → is_text s ≡ (all text_byte s && well_formed s)
  unfolding is_text
  text-sized h k = rw (le-leb 1 (length s) (omega arith), le-leb (length s) 64 k)
