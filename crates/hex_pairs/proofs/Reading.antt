-- The pairs of a line from a place on, and of a text's lines from a line on.
use Prim.Native.Nat.{ℕ, suc, ◌+◌, ◌-◌, ◌≤◌, ◌<◌}
use native.Mathlib.Omega.{arith}
use native.Mathlib.Numerals.{add-one}
use mathlib.Core.Path.{◌≡◌, refl, sym, ap, ◌∙◌}
use mathlib.Core.List.{List, [], ◌∷◌, ◌++◌, append-nil}
use mathlib.Core.Bool.{Bool, true, false}
use lib.ListN.{length, take, drop, get_or, drop_of_length-le}
use lib.Seq.{drop-cons, take_all}
use borrow.Author.Tests.{eq-eqb, ne_eqb}
use Rattle.output.specs.Pour.{poured}
use Rattle.output.proofs.Pour.{none, then, kept}
use Rattle.text.specs.Parts.{split, LF}
use Rattle.std.specs.List.{enumerate_from, slice_split}
use Rattle.std.proofs.lemmas.List.FromFn.{length-enumerate_from, get_or-enumerate_from}
use Rattle.std.proofs.lemmas.List.{get_or_default}
use Rattle.text.proofs.Words.{split_is}
use native.Mathlib.Nat.{zero-add}
use lib.Dec.{eqb}
use Rattle.hex_pairs.specs.Pairs.{digit_value, on_pair, pairs_in, unlabelled, on_line, pairs_from, pairs_of}

-- ---- the pairs of a line by its first bytes

-- what stands behind the first byte
abbrev pub behind : List ℕ → List ℕ
behind s = take (length s - 1) (drop 1 s)

opened : (s : List ℕ) → 1 ≤ length s → s ≡ get_or s 0 0 ∷ behind s
opened [] h = absurd (omega arith)
opened (b ∷ s) h = rw (take_all (suc (length s) - 1) s (omega arith))

pub pairs-none : (s : List ℕ) → length s < 1 → pairs_in s ≡ ([], true)
unfolding pairs_in
pairs-none [] h = refl
pairs-none (b ∷ s) h = absurd (omega arith)

module _ (s : List ℕ) (h : 1 ≤ length s) where
  pub pairs-space : get_or s 0 0 ≡ 32 → pairs_in s ≡ pairs_in (behind s)
  unfolding pairs_in
  pairs-space e = ap pairs_in (opened s h) ∙ go (behind s)
    where
      go : (t : List ℕ) → pairs_in (get_or s 0 0 ∷ t) ≡ pairs_in t
      go [] = rw (eq-eqb (get_or s 0 0) 32 e)
      go (c ∷ t) = rw (eq-eqb (get_or s 0 0) 32 e)

  module _ (n : get_or s 0 0 ≡ 32 → ⊥) where
    pub pairs-lone : length (behind s) < 1 → pairs_in s ≡ ([], false)
    unfolding pairs_in
    pairs-lone k = ap pairs_in (opened s h) ∙ go (behind s) k
      where
        go : (t : List ℕ) → length t < 1 → pairs_in (get_or s 0 0 ∷ t) ≡ ([], false)
        go [] k = rw (ne_eqb (get_or s 0 0) 32 n)
        go (c ∷ t) k = absurd (omega arith)

    pub pairs-two : 1 ≤ length (behind s)
        → pairs_in s ≡ on_pair (digit_value (get_or s 0 0)) (digit_value (get_or (behind s) 0 0)) (pairs_in (behind (behind s)))
    unfolding pairs_in
    pairs-two k =
        ap pairs_in (opened s h) ∙ ap (λ t. pairs_in (get_or s 0 0 ∷ t)) (opened (behind s) k)
        ∙ rw (ne_eqb (get_or s 0 0) 32 n)

-- ---- what is written: all of it, and what is still to be written from a place on

module _ (all : ℕ × List ℕ) (end : ℕ) (new out : List ℕ) (f : all ≡ poured end new out) where
  -- the front of it is written
  onward : (a rest : List ℕ) (x : ℕ) (mid : List ℕ) → new ≡ a ++ rest → (x, mid) ≡ poured end a out → length out < 9223372036854775808
      → all ≡ poured x rest mid
  onward a rest x mid e g h =
      f ∙ ap (λ (l : List ℕ). poured end l out) e ∙ sym (then end a rest out x mid (poured x rest mid) g refl h)

  -- nothing is left
  ending : new ≡ [] → end ≤ 18446744073709551615 → (end, out) ≡ all
  ending e h = none end out h ∙ sym (f ∙ ap (λ (l : List ℕ). poured end l out) e)

-- ---- a line, read but for what is left of it, with its bytes written up to the place end
pub record Left (at : ℕ) (line first : List ℕ) (end : ℕ) (left out : List ℕ) : Type 0 where
  pub bytes : poured at (pairs_in line).0 first ≡ poured end (pairs_in left).0 out
  pub whole : (pairs_in line).1 ≡ (pairs_in left).1
  pub counted : end ≤ 18446744073709551615
  pub kept : length out ≡ length first

module _ (at : ℕ) (line first : List ℕ) where
  pub started : at ≤ 18446744073709551615 → Left at line first at line first
  started h = record { bytes = refl; whole = refl; counted = h; kept = refl }

  module _ (end : ℕ) (left out : List ℕ) (l : Left at line first end left out) where
    -- at a space
    pub passed : (rest : List ℕ) → pairs_in left ≡ pairs_in rest → Left at line first end rest out
    passed rest k = record { bytes = rw k at l.bytes; whole = rw k at l.whole; counted = l.counted; kept = l.kept }

    -- at the end, or at a fault
    pub stopped : (v : Bool) → pairs_in left ≡ ([], v) → ((end, out) ≡ poured at (pairs_in line).0 first) × ((pairs_in line).1 ≡ v)
    stopped v e = (ending _ _ _ _ l.bytes (rw e) l.counted, l.whole ∙ rw e)

    -- at a pair
    pub stored : (b x : ℕ) (rest mid : List ℕ) → pairs_in left ≡ (b ∷ (pairs_in rest).0, (pairs_in rest).1)
        → (x, mid) ≡ poured end (b ∷ []) out → x ≤ 18446744073709551615 → length out < 9223372036854775808
        → Left at line first x rest mid
    stored b x rest mid e f k m =
        record {
          bytes = onward _ _ _ _ l.bytes (b ∷ []) _ x mid (rw e) f m;
          whole = rw e at l.whole;
          counted = k;
          kept = kept _ _ _ _ _ f ∙ l.kept;
        }

-- ---- the lines of a text, of which n are read, with their bytes written up to the place end
pub record LinesLeft (text first : List ℕ) (n end : ℕ) (out : List ℕ) : Type 0 where
  pub bytes : poured 0 (pairs_of text).0 first ≡ poured end (pairs_from (n + 1) (drop n (split LF text))).0 out
  pub fault : (pairs_of text).1 ≡ (pairs_from (n + 1) (drop n (split LF text))).1
  pub counted : end ≤ 18446744073709551615
  pub kept : length out ≡ length first

module _ (text first : List ℕ) where
  pub lines-started : LinesLeft text first 0 0 first
  lines-started = record { bytes = refl; fault = refl; counted = omega arith; kept = refl }

  module _ (n end : ℕ) (out : List ℕ) (l : LinesLeft text first n end out) where
    -- at the end
    pub lines-stopped : length (split LF text) ≤ n → ((end, out) ≡ poured 0 (pairs_of text).0 first) × (0 ≡ (pairs_of text).1)
    unfolding pairs_from
    lines-stopped h =
        let e = drop_of_length-le (split LF text) h in
        (ending _ _ _ _ l.bytes (rw e) l.counted, sym (l.fault ∙ rw e))

    -- behind a line that is read up to x
    module _ (line : List ℕ) (h : n < length (split LF text)) (u : line ≡ unlabelled (get_or (split LF text) n []))
        (x : ℕ) (mid : List ℕ) (r : (x, mid) ≡ poured end (pairs_in line).0 out) where
      line_first : pairs_from (n + 1) (drop n (split LF text)) ≡ on_line (n + 1) (pairs_in line) (pairs_from (n + 2) (drop (n + 1) (split LF text)))
      unfolding pairs_from
      line_first =
          let two : n + 2 ≡ suc (n + 1) = omega arith in
          rw (drop-cons (split LF text) n [] h, two, u, add-one n)

      pub lines-fault : (pairs_in line).1 ≡ false → x ≤ 18446744073709551615 → length out < 9223372036854775808
          → ((x, mid) ≡ poured 0 (pairs_of text).0 first) × (n + 1 ≡ (pairs_of text).1)
      lines-fault v b m =
          let p : pairs_from (n + 1) (drop n (split LF text)) ≡ ((pairs_in line).0, n + 1) = rw (line_first, v) in
          let q : (pairs_from (n + 1) (drop n (split LF text))).0 ≡ (pairs_in line).0 ++ [] = rw (p, append-nil (pairs_in line).0) in
          (ending _ _ _ _ (onward _ _ _ _ l.bytes (pairs_in line).0 [] x mid q r m) refl b, sym (l.fault ∙ rw p))

      pub lines-onward : (pairs_in line).1 ≡ true → x ≤ 18446744073709551615 → length out < 9223372036854775808
          → LinesLeft text first (n + 1) x mid
      lines-onward v b m =
          let rest = pairs_from (n + 2) (drop (n + 1) (split LF text)) in
          let p : pairs_from (n + 1) (drop n (split LF text)) ≡ ((pairs_in line).0 ++ rest.0, rest.1) = rw (line_first, v) in
          let two : n + 2 ≡ n + 1 + 1 = omega arith in
          record {
            bytes = rw (← two) (onward _ _ _ _ l.bytes (pairs_in line).0 rest.0 x mid (rw p) r m);
            fault = rw (← two) (l.fault ∙ rw p);
            counted = b;
            kept = kept _ _ _ _ _ r ∙ l.kept;
          }

-- line n as the loop over the lines has it
pub numbered : (text : List ℕ) (n i : ℕ) (line : List ℕ) → n < length (enumerate_from 0 (slice_split (λ b. eqb b LF) text))
    → (i, line) ≡ get_or (enumerate_from 0 (slice_split (λ b. eqb b LF) text)) n (i, line)
    → (n < length (split LF text)) × (i ≡ n) × (line ≡ get_or (split LF text) n [])
numbered text n i line h e =
    let lines = slice_split (λ b. eqb b LF) text in
    let short : n < length lines = omega (arith, length-enumerate_from 0 lines) in
    let is = e ∙ get_or-enumerate_from 0 lines n (i, line) short in
    rw (split_is LF text) (short, ap (λ (p : ℕ × List ℕ). p.0) is ∙ zero-add n, ap (λ (p : ℕ × List ℕ). p.1) is ∙ get_or_default lines n line [] short)

pub all_numbered : (text : List ℕ) (n : ℕ) → n ≡ length (enumerate_from 0 (slice_split (λ b. eqb b LF) text)) → length (split LF text) ≤ n
all_numbered text n e = rw (split_is LF text) (omega (arith, length-enumerate_from 0 (slice_split (λ b. eqb b LF) text)))
