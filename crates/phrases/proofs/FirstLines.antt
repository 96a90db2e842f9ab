-- The texts of the first lines, line by line.
use Prim.Native.Nat.{ℕ, suc, ◌+◌, ◌-◌, ◌≤◌, ◌<◌}
use native.Mathlib.Omega.{arith}
use mathlib.Core.Path.{◌≡◌}
use mathlib.Core.List.{List, [], ◌∷◌, map}
use lib.ListN.{length, take, drop}
use lib.Seq.{take-nil}
use Rattle.text.specs.Parts.{parts_from, until_byte, LF}
use Rattle.text.specs.Text.{Text}
use Rattle.text.proofs.Places.{parts_whole, parts_none, parts_next}
use Rattle.phrases.specs.Lookup.{phrase_text, own_texts}

-- ---- the texts of the first lines, without the first n, of which the next starts at the place a

unfoldable pub own_from : ℕ → ℕ → ℕ → List ℕ → List Text
own_from count n a s = map phrase_text (take (count - n) (parts_from LF a s))

module _ (count : ℕ) (s : List ℕ) where
  pub own-whole : own_texts count s ≡ own_from count 0 0 s
  unfolding own_texts own_from
  own-whole = let e : count - 0 ≡ count = omega arith in rw (parts_whole LF s, e)

  module _ (n a : ℕ) where
    pub own-none : count ≤ n → own_from count n a s ≡ []
    unfolding own_from
    own-none h = let e : count - n ≡ 0 = omega arith in rw e

    pub own-end : length s < a → own_from count n a s ≡ []
    unfolding own_from
    own-end h = rw (parts_none LF s a h, take-nil (count - n))

    pub own-next : (e : ℕ) → n < count → a ≤ length s → e ≡ a + until_byte LF (drop a s)
        → own_from count n a s ≡ phrase_text (take (e - a) (drop a s)) ∷ own_from count (n + 1) (e + 1) s
    unfolding own_from
    own-next e l h k = let m : count - n ≡ suc (count - (n + 1)) = omega arith in rw (m, parts_next LF s a e h k)
