-- Values written one by one: what is left of them makes the whole.
use Prim.Native.Nat.{ℕ, zero, suc, ◌-◌, ◌≤◌, ◌<◌}
use mathlib.Core.Path.{◌≡◌, refl, sym, ap, ◌∙◌}
use mathlib.Core.List.{List, [], ◌∷◌, ◌++◌, map, append_assoc}
use native.Mathlib.Omega.{arith}
use native.Mathlib.Numerals.{sub-one}
use lib.ListN.{length}
use Rattle.causes.specs.declared.Cause.{Cause}
use Rattle.text.specs.Parts.{join, comma, LF}
use Rattle.output.specs.Pour.{poured}
use Rattle.output.proofs.Pour.{none, then}
use Rattle.output.proofs.Poured.{ended}
use Rattle.plate.specs.Reading.{got, stopped, Reader}
use Rattle.fields.specs.Places.{place_at}
use Rattle.reader.specs.Holding.{There}
use Rattle.reader.proofs.Next.{there-no-more, there-next, there-read}
use Rattle.listing.specs.Listing.{lines_text}

-- the bytes of values are those of each, one behind the other
pub record Pieces {A : Type 0} (one : A → List ℕ) (write : List A → List ℕ) : Type 0 where
  pub nothing : write [] ≡ []
  pub more : (x : A) (xs : List A) → write (x ∷ xs) ≡ one x ++ write xs

-- lines, each ended by LF
pub lines-pieces : {A : Type 0} (f : A → List (List ℕ)) → Pieces (λ x. lines_text (f x ∷ [])) (λ xs. lines_text (map f xs))
unfolding lines_text
lines-pieces f = record {
  nothing = refl;
  more = λ x xs. sym (append_assoc (join comma (f x)) (LF ∷ []) (lines_text (map f xs)));
}

module _ {A : Type 0} {one : A → List ℕ} {write : List A → List ℕ} (w : Pieces one write) where
  -- the first is written, and the others are left
  pub pieces-next : {xs rest : List A} {x : A} (at : ℕ) (out : List ℕ) {y : ℕ} {mid : List ℕ} → xs ≡ x ∷ rest
      → (y, mid) ≡ poured at (one x) out → length out < 9223372036854775808 → poured y (write rest) mid ≡ poured at (write xs) out
  pieces-next {xs} {rest} {x} at out {y} {mid} e f h =
      then at (one x) (write rest) out y mid _ f refl h
      ∙ ap (λ (b : List ℕ). poured at b out) (sym (ap write e ∙ w.more x rest))

  pub pieces_end : {xs : List A} {at : ℕ} {out : List ℕ} → xs ≡ [] → at ≤ 18446744073709551615 → (at, out) ≡ poured at (write xs) out
  pieces_end {xs} {at} {out} e h = none at out h ∙ ap (λ (b : List ℕ). poured at b out) (sym (ap write e ∙ w.nothing))

  -- values of a list: these are left, and are written from a place on
  pub record LeftOf (rest : List A) (at : ℕ) (out : List ℕ) (whole : ℕ × List ℕ) : Type 0 where
    pub written : poured at (write rest) out ≡ whole
    pub counted : at ≤ 18446744073709551615

  module _ {xs : List A} {at : ℕ} {out : List ℕ} {whole : ℕ × List ℕ} (l : LeftOf xs at out whole) where
    pub of-next : {x : A} {rest : List A} {n : ℕ} {mid : List ℕ} → xs ≡ x ∷ rest → (n, mid) ≡ poured at (one x) out
        → length out < 9223372036854775808 → LeftOf rest n mid whole
    of-next {x} {rest} {n} {mid} e f k =
        record { written = pieces-next at out e f k ∙ l.written; counted = omega (arith, ended at (one x) out n mid f) }

    pub of_end : xs ≡ [] → (at, out) ≡ whole
    of_end e = pieces_end e l.counted ∙ l.written

  -- values that are there on a plate
  module _ (r : ℕ → Reader A) (plate : List ℕ) where
    -- n are left from a bit on, and are written from a place on
    pub record Left (n bit at : ℕ) (out : List ℕ) (whole : ℕ × List ℕ) : Type 0 where
      pub rest : List A
      pub there : There r plate n bit rest
      pub written : poured at (write rest) out ≡ whole
      pub counted : at ≤ 18446744073709551615

    pub left-all : {n bit : ℕ} {xs : List A} (at : ℕ) (out : List ℕ) → There r plate n bit xs → at ≤ 18446744073709551615
        → Left n bit at out (poured at (write xs) out)
    left-all {n} {bit} {xs} at out t h = record { rest = xs; there = t; written = refl; counted = h }

    module _ (n : ℕ) {bit at : ℕ} {out : List ℕ} {whole : ℕ × List ℕ} (l : Left n bit at out whole) where
      pub left-more : {x : A} {next y : ℕ} {mid : List ℕ} → 0 < n → got x (place_at plate next) ≡ r (n - 1) (place_at plate bit)
          → (y, mid) ≡ poured at (one x) out → length out < 9223372036854775808 → Left (n - 1) next y mid whole
      left-more {x} {next} {y} {mid} h e f k = go n h l e
        where
          go : (m : ℕ) → 0 < m → Left m bit at out whole → got x (place_at plate next) ≡ r (m - 1) (place_at plate bit)
              → Left (m - 1) next y mid whole
          go zero h l e = absurd (omega arith)
          go (suc m) h l e =
              let e' = rw sub-one at e in
              let first = there-next r plate l.there e' in
              rw sub-one
              (record {
                rest = first.rest;
                there = first.others;
                written = pieces-next at out first.split f k ∙ l.written;
                counted = omega (arith, ended at (one x) out y mid f);
              })

      pub left-none : n ≡ 0 → (at, out) ≡ whole
      left-none z = let m = rw z at l in pieces_end (there-no-more r plate m.there) m.counted ∙ m.written

      pub left-read : {cause : Cause} {b : ℕ} → 0 < n → stopped cause b ≡ r (n - 1) (place_at plate bit) → ⊥
      left-read {cause} {b} h e = go n h l e
        where
          go : (m : ℕ) → 0 < m → Left m bit at out whole → stopped cause b ≡ r (m - 1) (place_at plate bit) → ⊥
          go zero h l e = absurd (omega arith)
          go (suc m) h l e = there-read r plate l.there (rw sub-one at e)
