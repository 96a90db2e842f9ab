-- The table of letters: where a first byte is found, and what all its ranges have in common.
use Prim.Native.Nat.{ℕ, suc, ◌≤◌, ◌<◌}
use mathlib.Core.Path.{◌≡◌, refl, ap, ◌∙◌}
use mathlib.Core.List.{List, [], ◌∷◌, ◌++◌}
use mathlib.Core.Bool.{Bool, true, false, cond, ◌&&◌, ◌||◌}
use mathlib.Core.Option.{Option, none, some}
use native.Mathlib.Omega.{arith}
use lib.ListN.{take, drop, get_or}
use lib.Seq.{split_at}
use lib.Dec.{leb, ltb}
use borrow.Author.Tests.{leb-true, ltb-true, le-leb, lt-leb}
use Rattle.text.specs.Parts.{all}
use Rattle.text.proofs.Tests.{and_parts, and_both, in-range, all_first, all_rest}
use Rattle.text.specs.Utf8.{Range, ◌to◌, within, Letter, ◌then◌, letters, begins}

-- ---- whether a byte lies in a range

module _ (r : Range) (b : ℕ) where
  pub is_within : r.least ≤ b → b ≤ r.most → within r b ≡ true
  is_within h k = and_both (le-leb _ _ h) (le-leb _ _ k)

  pub under : b < r.least → within r b ≡ false
  under h = rw (lt-leb r.least b h)

  pub over : r.most < b → within r b ≡ false
  over h = go (leb r.least b)
    where
      go : (v : Bool) → (v && leb b r.most) ≡ false
      go true = lt-leb b r.most h
      go false = refl

-- ---- where a first byte is found

module _ (b : ℕ) where
  -- the letter l, behind letters that begin with lower bytes
  pub begins-at : (front back : List Letter) (l : Letter) → all (λ m. ltb m.first.most l.first.least) front ≡ true
      → l.first.least ≤ b → b ≤ l.first.most → begins (front ++ (l ∷ back)) b ≡ some l.behind
  unfolding begins
  begins-at [] back l lower h k = rw (is_within l.first b h k)
  begins-at (m ∷ front) back l lower h k =
      let low : m.first.most < l.first.least =
      ltb-true _ _ (all_first (λ m. ltb m.first.most l.first.least) m front lower) in
      rw (over m.first b (omega arith))
      (begins-at front back l (all_rest (λ m. ltb m.first.most l.first.least) m front lower) h k)

  -- between a and z no letter begins
  pub begins-never : (a z : ℕ) (ls : List Letter) → all (λ m. ltb m.first.most a || ltb z m.first.least) ls ≡ true
      → a ≤ b → b ≤ z → begins ls b ≡ none
  unfolding begins
  begins-never a z [] apart h k = refl
  begins-never a z (m ∷ ls) apart h k =
      rw (outside (ltb m.first.most a) refl (all_first (λ m. ltb m.first.most a || ltb z m.first.least) m ls apart))
      (begins-never a z ls (all_rest (λ m. ltb m.first.most a || ltb z m.first.least) m ls apart) h k)
    where
      outside : (v : Bool) → ltb m.first.most a ≡ v → (v || ltb z m.first.least) ≡ true → within m.first b ≡ false
      outside true e t = let low : m.first.most < a = ltb-true _ _ e in over m.first b (omega arith)
      outside false e t = let above : z < m.first.least = ltb-true _ _ t in under m.first b (omega arith)

-- ---- what all ranges have in common

-- only bytes from 128 to 255 lie in it
abbrev pub high : Range → Bool
high r = leb 0x80 r.least && leb r.most 0xFF

module _ (r : Range) (b : ℕ) (h : high r ≡ true) where
  pub high-not : b ≤ 0x7F → within r b ≡ false
  high-not k =
      let low : 0x80 ≤ r.least = leb-true _ _ (and_parts (leb 0x80 r.least) (leb r.most 0xFF) h).0 in
      under r b (omega arith)

  pub high_byte : within r b ≡ true → b ≤ 0xFF
  high_byte k =
      let most : r.most ≤ 0xFF = leb-true _ _ (and_parts (leb 0x80 r.least) (leb r.most 0xFF) h).1 in
      omega (arith, (in-range r.least b r.most k).1)

-- a byte with which a letter begins is one of 0 to 255, and the ranges behind it are high
abbrev pub Begun : ℕ → Option (List Range) → Type 0
Begun b none = Unit
Begun b (some due) = (b ≤ 0xFF) × (all high due ≡ true)

-- a row of a table that says so
abbrev tidy : Letter → Bool
tidy l = leb l.first.most 0xFF && all high l.behind

begun-in : (b : ℕ) (ls : List Letter) → all tidy ls ≡ true → Begun b (begins ls b)
unfolding begins
begun-in b [] h = tt
begun-in b (l ∷ ls) h = go (within l.first b) refl (begun-in b ls (all_rest tidy l ls h))
  where
    go : (v : Bool) → within l.first b ≡ v → Begun b (begins ls b) → Begun b (cond v (some l.behind) (begins ls b))
    go true e more =
        let good = and_parts (leb l.first.most 0xFF) (all high l.behind) (all_first tidy l ls h) in
        let most : l.first.most ≤ 0xFF = leb-true _ _ good.0 in
        (omega (arith, (in-range l.first.least b l.first.most e).1), good.1)
    go false e more = more

pub begun : (b : ℕ) → Begun b (begins letters b)
unfolding all
begun b = begun-in b letters refl

-- ASCII is a letter by itself
pub begins-ascii : (b : ℕ) → b ≤ 0x7F → begins letters b ≡ some []
unfolding all
begins-ascii b h = begins-at b [] _ _ refl (omega arith) h

-- a letter of the table by its place
abbrev pub nth : ℕ → Letter
nth k = get_or letters k (0 to 0 then [])

-- the byte lies in the first range of this letter, and the letters above it begin with lower bytes
pub letter_at : (b k : ℕ) → k < 9 → all (λ m. ltb m.first.most (nth k).first.least) (take k letters) ≡ true
    → (nth k).first.least ≤ b → b ≤ (nth k).first.most → begins letters b ≡ some (nth k).behind
letter_at b k few lower h m =
    ap (λ ls. begins ls b) (split_at letters k (0 to 0 then []) few) ∙ begins-at b (take k letters) (drop (suc k) letters) (nth k) lower h m
