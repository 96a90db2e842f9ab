-- The lines of a book that end in LF: from a place on, up to a place, and their number.
use Prim.Native.Nat.{ℕ, suc, ◌+◌, ◌-◌, ◌≤◌, ◌<◌}
use native.Mathlib.Omega.{arith}
use mathlib.Core.Path.{◌≡◌, refl, ap, ◌∙◌}
use mathlib.Core.List.{List, [], ◌∷◌, ◌++◌, append_assoc, append-nil}
use mathlib.Core.Bool.{Bool, true, false, cond}
use lib.ListN.{length, take, drop, drop_of_length-le, length-drop}
use lib.Seq.{take-add, append_snoc}
use lib.Dec.{eqb}
use Rattle.text.specs.Parts.{split, on_first, until_byte, LF}
use Rattle.text.specs.Text.{Text}
use Rattle.text.proofs.Places.{part-first, part-last}
use Rattle.text.proofs.Splits.{split-some}
use Rattle.phrases.specs.Lookup.{ended, book_texts}

-- ---- from the place a on

module _ (s : List ℕ) (a : ℕ) where
  pub book-end : length s ≤ a → book_texts (drop a s) ≡ []
  unfolding book_texts ended split
  book-end h = rw (drop_of_length-le s h)

  -- the line that starts at a ends at e
  module _ (e : ℕ) (k : e ≡ a + until_byte LF (drop a s)) where
    pub book-last : e ≡ length s → book_texts (drop a s) ≡ []
    unfolding book_texts ended
    book-last h = rw (part-last LF s a e k h)

    pub book-next : e < length s → book_texts (drop a s) ≡ take (e - a) (drop a s) ∷ book_texts (drop (e + 1) s)
    unfolding book_texts ended
    book-next h = rw (part-first LF s a e k h, (split-some LF (drop (e + 1) s)).2)

-- ---- up to the place a

-- bytes that are whole lines
abbrev pub Whole : List ℕ → Type 0
Whole p = (t : List ℕ) → book_texts (p ++ t) ≡ book_texts p ++ book_texts t

pub whole-none : Whole []
unfolding book_texts ended split
whole-none t = refl

-- bytes up to the first LF are a line
first-line : (s t : List ℕ) → until_byte LF s < length s
    → split LF (take (suc (until_byte LF s)) s ++ t) ≡ take (until_byte LF s) s ∷ split LF t
unfolding split until_byte
first-line [] t h = absurd (omega arith)
first-line (b ∷ s) t h = go (eqb b LF) h (first-line s t)
  where
    go : (v : Bool) → cond v 0 (suc (until_byte LF s)) < suc (length s)
        → (until_byte LF s < length s → split LF (take (suc (until_byte LF s)) s ++ t) ≡ take (until_byte LF s) s ∷ split LF t)
        → cond v ([] ∷ split LF (take (cond v 0 (suc (until_byte LF s))) s ++ t))
        (on_first b (split LF (take (cond v 0 (suc (until_byte LF s))) s ++ t)))
        ≡ take (cond v 0 (suc (until_byte LF s))) (b ∷ s) ∷ split LF t
    go true l r = refl
    go false l r = rw (r (omega arith))

line-text : (s t : List ℕ) → until_byte LF s < length s
    → book_texts (take (suc (until_byte LF s)) s ++ t) ≡ take (until_byte LF s) s ∷ book_texts t
unfolding book_texts ended
line-text s t h = rw (first-line s t h, (split-some LF t).2)

-- the line that starts at a ends at e, and whole lines stand before it
module _ (s : List ℕ) (a e : ℕ) (k : e ≡ a + until_byte LF (drop a s)) (h : e < length s) (w : Whole (take a s)) where
  front-next : (t : List ℕ) → book_texts (take (e + 1) s ++ t) ≡ book_texts (take a s) ++ take (e - a) (drop a s) ∷ book_texts t
  front-next t =
      let u : until_byte LF (drop a s) ≡ e - a = omega arith in
      let n : e + 1 ≡ a + suc (e - a) = omega arith in
      let l : until_byte LF (drop a s) < length (drop a s) = rw length-drop (omega arith) in
      let f = rw u at (line-text (drop a s) t l) in
      rw (n, take-add a (suc (e - a)) s, append_assoc)
      (w (take (suc (e - a)) (drop a s) ++ t) ∙ ap (◌++◌ (book_texts (take a s))) f)

  pub front-texts : book_texts (take (e + 1) s) ≡ book_texts (take a s) ++ (take (e - a) (drop a s) ∷ [])
  unfolding book_texts ended split
  front-texts = rw append-nil at (front-next [])

  pub whole-next : Whole (take (e + 1) s)
  whole-next t = rw (front-texts, append_snoc) (front-next t)

-- ---- their number

pub book-count : (s : List ℕ) → length (split LF s) ≡ suc (length (book_texts s))
unfolding book_texts ended
book-count s = let q = split-some LF s in rw q.2 (go q.0 q.1)
  where
    go : (t : Text) (ts : List Text) → length (t ∷ ts) ≡ suc (length (ended (t ∷ ts)))
    go t [] = refl
    go t (u ∷ ts) = ap suc (go u ts)
