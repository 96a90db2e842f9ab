-- Characters of a text, w bits each, put together as one number.
use Prim.Native.Nat.{ℕ, ◌+◌, ◌*◌, ◌/◌, ◌%◌, ◌^◌, ◌≤◌, ◌<◌}
use native.Mathlib.Omega.{arith}
use native.Mathlib.Nat.{mod-lt, lt_of_lt_of_le, le_trans, mul-le-mul, div-mul-le_self, le-div_iff_mul-le}
use native.Mathlib.Numerals.{add-one}
use mathlib.Core.Path.{◌≡◌, refl, sym, ◌∙◌}
use mathlib.Core.List.{[], ◌∷◌, ◌++◌, append_assoc, append-nil}
use lib.ListN.{length, take, get_or}
use lib.Seq.{take-suc, take-length, append_snoc}
use lib.Arith.{digits_lt}
use lib.Pow.{pow-add, pow_mono, pow_pos}
use Rattle.bits.specs.Bits.{bits_of}
use Rattle.bits.proofs.Fields.{bits-behind}
use Rattle.text.specs.Text.{Text}
use Rattle.plate.specs.Writing.{ETX, spelled_bits}

-- a group of at most 56 / w characters
pub group_fits : (n w : ℕ) → n ≤ 56 / w → n * w ≤ 56
group_fits n w h =
    let fits : n * w ≤ 56 / w * w = mul-le-mul {n₁ = n} {m₁ = w} {n₂ = 56 / w} {m₂ = w} h (omega arith) in le_trans fits (div-mul-le_self 56 w)

pub some_fit : (w : ℕ) → 0 < w → w ≤ 8 → 0 < 56 / w
some_fit w h k = (le-div_iff_mul-le {k = w} {x = 1} {y = 56} h).1 (omega arith)

module _ (w : ℕ) where
  pub spelled-none : (t : Text) → length t ≡ 0 → spelled_bits w t ≡ bits_of w ETX
  unfolding spelled_bits
  spelled-none [] h = refl
  spelled-none (x ∷ t) h = absurd (omega arith)

  -- the first n characters of a text are the number v, whatever text stands behind them
  pub record Joined (t : Text) (n v : ℕ) : Type 0 where
    pub bits : (rest : Text) → spelled_bits w (take n t ++ rest) ≡ bits_of (n * w) v ++ spelled_bits w rest
    pub below : v < 2 ^ (n * w)

  pub joined-none : (t : Text) → Joined t 0 0
  unfolding spelled_bits bits_of
  joined-none t = let none : 0 * w ≡ 0 = omega arith in record { bits = λ rest. rw none; below = rw none (omega arith) }

  -- all of them
  pub joined-all : (t : Text) (n v : ℕ) → Joined t n v → n ≡ length t → (rest : Text)
      → spelled_bits w (t ++ rest) ≡ bits_of (length t * w) v ++ spelled_bits w rest
  joined-all t n v j e rest = rw (e, take-length t) at (j.bits rest)

  module _ (t : Text) (n v : ℕ) (j : Joined t n v) (h : n < length t) where
    wider : (n + 1) * w ≡ n * w + w
    wider = omega arith

    -- one character more
    pub joined-more : Joined t (n + 1) (v * 2 ^ w + get_or t n 0 % 2 ^ w)
    unfolding spelled_bits
    joined-more =
        record {
          bits = λ rest. rw (add-one n, take-suc t n 0 h, append_snoc, ← add-one n, wider, bits-behind (n * w) w v (get_or t n 0), append_assoc) (j.bits _);
          below = rw (wider, pow-add 2 (n * w) w) (digits_lt j.below (mod-lt (get_or t n 0) (pow_pos w)));
        }

    -- it stays small where all of the text has at most 56 bits
    pub joined-small : length t * w ≤ 56 → v * 2 ^ w + get_or t n 0 % 2 ^ w < 2 ^ 56
    joined-small k =
        let part : (n + 1) * w ≤ 56 = le_trans (mul-le-mul {n₁ = n + 1} {m₁ = w} {n₂ = length t} {m₂ = w} (omega arith) (omega arith)) k in
        lt_of_lt_of_le joined-more.below (pow_mono {i = (n + 1) * w} {j = 56} part)

-- the text behind which ETX stands, as one number
module _ (w v : ℕ) (t : Text) (is : (rest : Text) → spelled_bits w (t ++ rest) ≡ bits_of (length t * w) v ++ spelled_bits w rest) where
  pub ended : ETX % 2 ^ w ≡ ETX → spelled_bits w t ≡ bits_of (length t * w + w) (v * 2 ^ w + ETX)
  unfolding spelled_bits
  ended h = rw (append-nil t) at (is []) ∙ sym (rw h at (bits-behind (length t * w) w v ETX))
