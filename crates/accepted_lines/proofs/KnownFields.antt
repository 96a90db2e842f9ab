-- The first field of a line from a place on, byte by byte.
use Prim.Native.Nat.{ℕ, suc, ◌+◌, ◌-◌, ◌≤◌, ◌<◌}
use native.Mathlib.Omega.{arith}
use native.Mathlib.Numerals.{add-one}
use mathlib.Core.Path.{◌≡◌, refl, sym, ap, ◌∙◌}
use mathlib.Core.List.{List, [], ◌∷◌}
use mathlib.Core.Bool.{Bool, true, false, cond}
use lib.ListN.{length, take, drop, get_or, length-drop, drop_of_length-le}
use lib.Seq.{length-take-le, get_or-take, get_or-drop, drop-cons}
use lib.Dec.{eqb}
use borrow.Author.Tests.{eqb-true, eq-eqb, ne_eqb}
use Rattle.text.specs.Parts.{comma, parts_from, split, on_first, until_byte}
use Rattle.text.proofs.Places.{parts-some, parts_next}
use Rattle.lines.proofs.FieldPlaces.{fields-there}

until-le : (l : List ℕ) → until_byte comma l ≤ length l
unfolding until_byte
until-le [] = omega arith
until-le (b ∷ l) = go (eqb b comma) (until-le l)
  where
    go : (t : Bool) → until_byte comma l ≤ length l → cond t 0 (suc (until_byte comma l)) ≤ suc (length l)
    go true h = omega arith
    go false h = omega arith

until-is : (l : List ℕ) → until_byte comma l < length l → get_or l (until_byte comma l) 0 ≡ comma
unfolding until_byte
until-is [] h = absurd (omega arith)
until-is (b ∷ l) h = go (eqb b comma) refl h (until-is l)
  where
    go : (t : Bool) → eqb b comma ≡ t → cond t 0 (suc (until_byte comma l)) < suc (length l)
        → (until_byte comma l < length l → get_or l (until_byte comma l) 0 ≡ comma)
        → get_or (b ∷ l) (cond t 0 (suc (until_byte comma l))) 0 ≡ comma
    go true e k r = eqb-true b comma e
    go false e k r = r (omega arith)

-- the first of the fields fs from a on has so many bytes, and they stand in the line from a on; more fields stand behind a comma
pub record First (s : List ℕ) (a : ℕ) (fs : List (List ℕ)) : Type 0 where
  pub size : ℕ
  pub long : length (get_or fs 0 []) ≡ size
  pub byte : (i : ℕ) → i < size → get_or (get_or fs 0 []) i 0 ≡ get_or s (a + i) 0
  pub ends : a + size ≤ length s
  pub next : parts_from comma (a + size + 1) s ≡ drop 1 fs
  pub more : 2 ≤ length fs → (a + size < length s) × (get_or s (a + size) 0 ≡ comma)

pub first : (s : List ℕ) (a : ℕ) → a ≤ length s → First s a (parts_from comma a s)
first s a h =
    let l = drop a s in
    let u = until_byte comma l in
    let n = length-drop a s in
    let le = until-le l in
    let z : a + u - a ≡ u = omega arith in
    let e : parts_from comma a s ≡ take u l ∷ parts_from comma (a + u + 1) s = rw z at (parts_next comma s a (a + u) h refl) in
    record {
      size = u;
      long = rw e (length-take-le u l le);
      byte = λ i k. rw e (get_or-take u l i 0 k ∙ get_or-drop a s i 0);
      ends = omega arith;
      next = rw e refl;
      more = λ k. go e k n;
    }
  where
    go : parts_from comma a s ≡ take (until_byte comma (drop a s)) (drop a s) ∷ parts_from comma (a + until_byte comma (drop a s) + 1) s
        → 2 ≤ length (parts_from comma a s) → length (drop a s) ≡ length s - a
        → (a + until_byte comma (drop a s) < length s) × (get_or s (a + until_byte comma (drop a s)) 0 ≡ comma)
    go e k n =
        let m : 1 ≤ length (parts_from comma (a + until_byte comma (drop a s) + 1) s) = omega (arith, ap length e) in
        let t : a + until_byte comma (drop a s) + 1 ≤ length s = fields-there s (a + until_byte comma (drop a s) + 1) (λ z. omega arith) in
        (omega arith, sym (get_or-drop a s (until_byte comma (drop a s)) 0) ∙ until-is (drop a s) (omega arith))

-- ---- one byte further

module _ (s : List ℕ) (i : ℕ) where
  pub at-end : length s ≡ i → parts_from comma i s ≡ [] ∷ []
  unfolding split
  at-end e = let k : length s ≤ i = omega arith in parts-some comma s i (omega arith) ∙ rw (drop_of_length-le s k)

  module _ (h : i < length s) where
    pub at-comma : get_or s i 0 ≡ comma → parts_from comma i s ≡ [] ∷ parts_from comma (i + 1) s
    unfolding split
    at-comma e =
        parts-some comma s i (omega arith)
        ∙ rw (drop-cons s i 0 h, eq-eqb (get_or s i 0) comma e, parts-some comma s (i + 1) (omega arith), add-one)

    at_byte : (get_or s i 0 ≡ comma → ⊥) → parts_from comma i s ≡ on_first (get_or s i 0) (parts_from comma (i + 1) s)
    unfolding split
    at_byte n =
        parts-some comma s i (omega arith)
        ∙ rw (drop-cons s i 0 h, ne_eqb (get_or s i 0) comma n, parts-some comma s (i + 1) (omega arith), add-one)

    pub byte-first : (get_or s i 0 ≡ comma → ⊥) → get_or (parts_from comma i s) 0 [] ≡ get_or s i 0 ∷ get_or (parts_from comma (i + 1) s) 0 []
    byte-first n = rw (at_byte n) (go (parts_from comma (i + 1) s))
      where
        go : (ps : List (List ℕ)) → get_or (on_first (get_or s i 0) ps) 0 [] ≡ get_or s i 0 ∷ get_or ps 0 []
        go [] = refl
        go (p ∷ ps) = refl

    pub byte-rest : (get_or s i 0 ≡ comma → ⊥) → drop 1 (parts_from comma i s) ≡ drop 1 (parts_from comma (i + 1) s)
    byte-rest n = rw (at_byte n) (go (parts_from comma (i + 1) s))
      where
        go : (ps : List (List ℕ)) → drop 1 (on_first (get_or s i 0) ps) ≡ drop 1 ps
        go [] = refl
        go (p ∷ ps) = refl
