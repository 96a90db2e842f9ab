-- Texts that are copied from a plate into a buffer, one by one, each behind a comma.
use Prim.Native.Nat.{ℕ, zero, suc, ◌-◌, ◌≤◌, ◌<◌}
use mathlib.Core.Path.{◌≡◌, refl, sym, ap, ◌∙◌}
use mathlib.Core.List.{List, [], ◌∷◌}
use native.Mathlib.Numerals.{sub-one}
use native.Mathlib.Omega.{arith}
use lib.ListN.{length}
use Rattle.output.specs.Pour.{poured}
use Rattle.output.proofs.Pour.{then}
use Rattle.text.specs.Parts.{comma}
use Rattle.text.specs.Text.{Text}
use Rattle.transcript.specs.Offered.{options_bytes}
use Rattle.transcript.proofs.Offers.{write-none}
use Rattle.plate.specs.Reading.{Place, Read, got, stopped, Reader, return, onward, ◌>>=◌, many}
use Rattle.fields.specs.Places.{end_with, count_read, values_of, Known}
use Rattle.plate_texts.proofs.Ended.{ended_some}

-- what copying leaves, of a reading that is the same
pub copied-alike : (from : ℕ) (out : List ℕ) {end : ℕ} {left : List ℕ} {q : Place} {m n : Read Text} → m ≡ n
    → ((end, left) ≡ poured from (values_of m) out) × (got 0 q ≡ end_with 0 m)
    → ((end, left) ≡ poured from (values_of n) out) × (got 0 q ≡ end_with 0 n)
copied-alike from out e c = (c.0 ∙ ap (λ m. poured from (values_of m) out) e, c.1 ∙ ap (end_with 0) e)

-- a text of the same bytes
pub poured-alike : (from : ℕ) (out : List ℕ) {end : ℕ} {left : List ℕ} {t u : Text} → (end, left) ≡ poured from t out → t ≡ u → (end, left) ≡ poured from u out
poured-alike from out e h = e ∙ ap (λ t. poured from t out) h

-- ---- the values of several

module _ {A : Type 0} (r : ℕ → Reader A) where
  -- the first and the others
  pub values-more : (left : ℕ) (q s : Place) (a : A) → 0 < left → Known (many r left q) → got a s ≡ r (left - 1) q
      → values_of (many r left q) ≡ a ∷ values_of (many r (left - 1) s)
  unfolding many ◌>>=◌ return
  values-more zero q s a h w e = absurd (omega arith)
  values-more (suc k) q s a h w e =
      let f : got a s ≡ r k q = rw sub-one at e in
      rw sub-one (ap (λ m. values_of (onward m (λ a. many r k >>= λ as'. return (a ∷ as')))) (sym f) ∙ go (many r k s) refl f)
    where
      go : (m : Read (List A)) → many r k s ≡ m → got a s ≡ r k q → values_of (onward m (λ as'. return (a ∷ as'))) ≡ a ∷ values_of m
      go (got xs u) g f = refl
      go (stopped cause bit) g f =
          absurd (w.good (sym (ap (λ m. onward m (λ as'. return (a ∷ as'))) g) ∙ ap (λ m. onward m (λ a. many r k >>= λ as'. return (a ∷ as'))) f))

  pub values-none : (left : ℕ) (q : Place) → left ≡ 0 → values_of (many r left q) ≡ []
  unfolding many return
  values-none left q z = rw z

-- ---- options

-- what is left of the texts, written from here on, makes all of them
pub record Left (r : ℕ → Reader Text) (p : Place) (n from : ℕ) (out₀ : List ℕ) (left : ℕ) (q : Place) (end : ℕ) (out : List ℕ) : Type 0 where
  pub rest : poured end (options_bytes (values_of (many r left q))) out ≡ poured from (options_bytes (values_of (many r n p))) out₀

module _ (r : ℕ → Reader Text) {p : Place} {n from : ℕ} {out₀ : List ℕ} (left : ℕ) {q : Place} {end : ℕ} {out : List ℕ}
    (l : Left r p n from out₀ left q end out) where
  -- one more, behind its comma
  pub left-more : {x y : ℕ} {mid last : List ℕ} {s : Place} → 0 < left → Known (many r left q) → length out < 9223372036854775808
      → (x, mid) ≡ poured end (comma ∷ []) out → (y, last) ≡ poured x (values_of (r (left - 1) q)) mid → got 0 s ≡ end_with 0 (r (left - 1) q)
      → Left r p n from out₀ (left - 1) s y last
  unfolding options_bytes
  left-more {x} {y} {mid} {last} {s} h w short e f g =
      let t = ended_some 0 0 s (r (left - 1) q) g in
      let same : values_of (r (left - 1) q) ≡ t.0 = ap values_of (sym t.1) in
      let f' : (y, last) ≡ poured x t.0 mid = poured-alike x mid f same in
      let one = then end (comma ∷ []) t.0 out x mid (y, last) e f' short in
      let rest = options_bytes (values_of (many r (left - 1) s)) in
      record {
        rest =
            then end (comma ∷ t.0) rest out y last (poured y rest last) one refl short
            ∙ ap (λ (ts : List Text). poured end (options_bytes ts) out) (sym (values-more r left q s t.0 h w t.1))
            ∙ l.rest;
      }

  -- none is left
  pub left-none : left ≡ 0 → end ≤ 18446744073709551615 → (end, out) ≡ poured from (options_bytes (values_of (many r n p))) out₀
  left-none z h = write-none end out h ∙ ap (λ (ts : List Text). poured end (options_bytes ts) out) (sym (values-none r left q z)) ∙ l.rest

pub left-all : (r : ℕ → Reader Text) (p : Place) (n from : ℕ) (out : List ℕ) → Left r p n from out n p from out
left-all r p n from out = record { rest = refl }

-- as many as were asked for
many-count : {A : Type 0} (r : ℕ → Reader A) (n : ℕ) (q : Place) → end_with n (many r n q) ≡ count_read (many r n q)
unfolding many ◌>>=◌ return
many-count r zero q = refl
many-count {A} r (suc n) q = go (r n q) (many-count r n)
  where
    more : (a : A) (m : Read (List A)) → end_with n m ≡ count_read m
        → end_with (suc n) (onward m (λ as'. return (a ∷ as'))) ≡ count_read (onward m (λ as'. return (a ∷ as')))
    more a (got xs u) e = let h : n ≡ length xs = cc in ap (λ k. got (suc k) u) h
    more a (stopped cause bit) e = refl

    go : (m : Read A) → ((s : Place) → end_with n (many r n s) ≡ count_read (many r n s))
        → end_with (suc n) (onward m (λ a. many r n >>= λ as'. return (a ∷ as')))
        ≡ count_read (onward m (λ a. many r n >>= λ as'. return (a ∷ as')))
    go (got a s) others = more a (many r n s) (others s)
    go (stopped cause bit) others = refl

-- n texts copied, where they are all the options
pub options-alike : (r : ℕ → Reader Text) (n : ℕ) (q : Place) (from : ℕ) (out : List ℕ) {end : ℕ} {left : List ℕ} {s : Place} {m : Read (List Text)}
    → many r n q ≡ m → ((end, left) ≡ poured from (options_bytes (values_of (many r n q))) out) × (got n s ≡ end_with n (many r n q))
    → ((end, left) ≡ poured from (options_bytes (values_of m)) out) × (got n s ≡ count_read m)
options-alike r n q from out e c =
    (c.0 ∙ ap (λ m. poured from (options_bytes (values_of m)) out) e, c.1 ∙ many-count r n q ∙ ap count_read e)
