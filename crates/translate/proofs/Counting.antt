-- The count of a block's lines, and the table of skips, at each place where the code's `block_length` and `statement_length` return, and at
-- each turn of the loop.
use Prim.Native.Nat.{ℕ, zero, suc, ◌+◌, ◌-◌, ◌<◌, ◌≤◌}
use native.Mathlib.Omega.{arith}
use native.Mathlib.Numerals.{sub-one}
use mathlib.Core.Path.{◌≡◌, refl, sym, ap, subst, ◌∙◌}
use mathlib.Core.List.{List, [], ◌∷◌, ◌++◌, append_assoc, append-nil}
use mathlib.Core.Bool.{Bool, true, false}
use lib.ListN.{length, drop, replicate, length-append}
use Rattle.output.specs.Pour.{pour}
use Rattle.output.proofs.Pour.{pour-length, pour-none, pour-then}
use Rattle.lines.specs.Line.{Line}
use Rattle.guide.specs.declared.Role.{Role}
use Rattle.guide.specs.Lines.{first_role, begins_by, else_by, lines_at, Reads}
use Rattle.guide.proofs.Reading.{begins-less}
use Rattle.translate.specs.declared.lengths.Length.{Length}
use Rattle.translate.specs.Lengths.{
  Extent,
  Counter,
  behind,
  and_then,
  one_if,
  at_else,
  if_by,
  skip_over,
  goto_over,
  if_with,
  statement_length,
  block_with,
  block_length,
  skip_table,
  Counts,
  CountsFrom,
}

abbrev pub length_of : ℕ → ℕ → Length
length_of k e = record { instructions = k; end = e }

-- a block of no lines
abbrev none : List Line → Extent
none ls = record { skips = []; lines = ls }

module _ (n : ℕ) (ls : List Line) where
  pub count-ends : begins_by (first_role ls) ≡ false → block_length n ls ≡ none ls
  unfolding block_length block_with
  count-ends v = go n
    where
      go : (n : ℕ) → block_length n ls ≡ none ls
      go zero = refl
      go (suc n) = rw v

  pub count-more : 0 < n → begins_by (first_role ls) ≡ true
      → block_length n ls ≡ and_then (statement_length (if_by (first_role ls)) (block_length (n - 1)) (drop 1 ls)) (block_length (n - 1))
  unfolding block_length block_with
  count-more h v = go n h
    where
      go : (n : ℕ) → 0 < n
          → block_length n ls ≡ and_then (statement_length (if_by (first_role ls)) (block_length (n - 1)) (drop 1 ls)) (block_length (n - 1))
      go zero h = absurd (omega arith)
      go (suc n) h = rw (sub-one, v)

-- ---- the table: an entry is stored before those behind it

before-others : (at k : ℕ) (ks old : List ℕ) → pour at (k ∷ []) (pour (suc at) ks old) ≡ pour at (k ∷ ks) old
unfolding pour
before-others at k ks [] = refl
before-others zero k ks (b ∷ old) = ap (λ (l : List ℕ). k ∷ l) (pour-none zero (pour zero ks old))
before-others (suc at) k ks (b ∷ old) = ap (λ (l : List ℕ). b ∷ l) (before-others at k ks old)

stored : (at : ℕ) (ks old : List ℕ) {k m place : ℕ} {mid new : List ℕ} → place ≡ at + 1 → mid ≡ pour place ks old
    → new ≡ pour at (k ∷ []) mid → k ≡ m → new ≡ pour at (m ∷ ks) old
stored at ks old {k} {m} {place} e f g h =
    let s : place ≡ suc at = omega arith in
    rw h at (rw (f, s) at g ∙ before-others at k ks old)

-- one part of the table behind the other
both : (at : ℕ) (ks js old : List ℕ) {k : ℕ} {mid new : List ℕ} → k ≡ length ks → mid ≡ pour at ks old → new ≡ pour (at + k) js mid
    → new ≡ pour at (ks ++ js) old
both at ks js old e f g = rw (e, f) at g ∙ pour-then at ks js old

-- ---- the block from a on: x is the whole, k instructions are counted, and those from the place `at` on are left

pub record Left (g : List ℕ) (first : ℕ) (old : List ℕ) (k at : ℕ) (table : List ℕ) (x : Extent) : Type 0 where
  pub left : ℕ
  pub enough : length (lines_at g at) ≤ left
  pub before : List ℕ
  pub count : k ≡ length before
  pub whole : behind before (block_length left (lines_at g at)) ≡ x
  pub stands : table ≡ pour first before old

abbrev pub LeftFrom : List ℕ → ℕ → ℕ → List ℕ → ℕ → ℕ → List ℕ → Type 0
LeftFrom g a first old k at table = (n : ℕ) → length (lines_at g a) ≤ n → Left g first old k at table (block_length n (lines_at g a))

pub begun : (g : List ℕ) (a first : ℕ) (old : List ℕ) → LeftFrom g a first old 0 a old
begun g a first old n l = record { left = n; enough = l; before = []; count = refl; whole = refl; stands = sym (pour-none first old) }

pub same_size : (g : List ℕ) (a first : ℕ) (old : List ℕ) (k at : ℕ) (table : List ℕ) → LeftFrom g a first old k at table → length table ≡ length old
same_size g a first old k at table f =
    let left = f (length (lines_at g a)) (omega arith) in
    ap length left.stands ∙ pour-length first left.before old

pub table-size : (g : List ℕ) (a first : ℕ) (old : List ℕ) (r : Length) (f : ℕ → Extent) (new : List ℕ) → CountsFrom g a first old r f new
    → length new ≡ length old
table-size g a first old r f new e =
    ap length (e (length (lines_at g a)) (omega arith)).table ∙ pour-length first (f (length (lines_at g a))).skips old

-- the block from the guide's first line on leaves the table of skips
pub whole-table : (g : List ℕ) (r : Length) (new : List ℕ) → CountsFrom g 0 0 (replicate 512 0) r (λ n. block_length n (lines_at g 0)) new
    → new ≡ skip_table g
unfolding skip_table
whole-table g r new e = (e (length (lines_at g 0)) (omega arith)).table

module _ (g : List ℕ) (a first : ℕ) (old : List ℕ) (k at : ℕ) (table : List ℕ) (f : LeftFrom g a first old k at table) where
  pub block-ends : (role : Role) (m : ℕ) → Reads g at role m → begins_by role ≡ false
      → CountsFrom g a first old (length_of k at) (λ n. block_length n (lines_at g a)) table
  block-ends role m r v n l =
      let left = f n l in
      let x = block_length n (lines_at g a) in
      let e = count-ends left.left (lines_at g at) (ap begins_by (sym r.role) ∙ v) in
      let same = ap (behind left.before) (sym e) ∙ left.whole in
      let skips : left.before ≡ x.skips = sym (append-nil left.before) ∙ ap (λ (y : Extent). y.skips) same in
      record {
        instructions = left.count ∙ ap length skips;
        lines = ap (λ (y : Extent). y.lines) same;
        table = left.stands ∙ ap (λ (ks : List ℕ). pour first ks old) skips;
      }

  pub block_more : (role : Role) (m : ℕ) (s : Length) (new : List ℕ) → Reads g at role m → begins_by role ≡ true
      → CountsFrom g m (first + k) table s (λ n. statement_length (if_by role) (block_length n) (lines_at g m)) new
      → length (lines_at g s.end) ≤ length (lines_at g m) → LeftFrom g a first old (k + s.instructions) s.end new
  block_more role m s new r v c h n l =
      let left = f n l in
      let less = begins-less g at role m r v in
      let e = c (left.left - 1) (omega (arith, left.enough)) in
      let f = block_length (left.left - 1) in
      let y = statement_length (if_by role) f (lines_at g m) in
      let rest = f y.lines in
      record {
        left = left.left - 1;
        enough = omega (arith, left.enough);
        before = left.before ++ y.skips;
        count = omega (arith, left.count, e.instructions, length-append left.before y.skips);
        whole =
            (λ i. behind (left.before ++ y.skips) (f (e.lines i)))
            ∙ (λ i. record { skips = append_assoc left.before y.skips rest.skips i; lines = rest.lines })
            ∙ (λ i. behind left.before (and_then (statement_length (if_by (r.role i)) f (r.rest i)) f))
            ∙ ap (behind left.before) (sym (count-more left.left (lines_at g at) (omega (arith, left.enough)) (ap begins_by (sym r.role) ∙ v)))
            ∙ left.whole;
        stands = both first left.before y.skips old left.count left.stands e.table;
      }

-- ---- the skip of an if: t is its true block, and last the line where that ends

module _ (g : List ℕ) (place : ℕ) (old mid : List ℕ) (t : Length) (x : Extent) (e : Counts g place old t x mid) (last : Role) (m : ℕ) (r : Reads g t.end last m) where
  turns : (w : Bool) → else_by last ≡ w → at_else x.lines ≡ w
  turns w h = ap at_else (sym e.lines) ∙ ap else_by (sym r.role) ∙ h

  skip_is : (w : Bool) → else_by last ≡ w → t.instructions + one_if w ≡ skip_over x
  unfolding skip_over
  skip_is w h = rw (turns w h) (ap (λ (n : ℕ). n + one_if w) e.instructions)

  -- the lines behind its last one
  lines-behind : lines_at g m ≡ drop 1 x.lines
  lines-behind = r.rest ∙ ap (drop 1) e.lines

-- ---- the statement whose line has the role, and the lines behind it

module _ (g : List ℕ) (first : ℕ) (old : List ℕ) (role : Role) (f : Counter) (a : ℕ) where
  pub plain-length : (new : List ℕ) → if_by role ≡ false → new ≡ pour first (0 ∷ []) old
      → Counts g first old (length_of 1 a) (statement_length (if_by role) f (lines_at g a)) new
  unfolding statement_length
  plain-length new v s = rw v (record { instructions = refl; lines = refl; table = s })

  module _ (v : if_by role ≡ true) (t : Length) (mid : List ℕ) (e : Counts g (first + 1) old t (f (lines_at g a)) mid) (last : Role) (m : ℕ) (r : Reads g t.end last m) where
    if-is : (w : Bool) → else_by last ≡ w → if_with w f (f (lines_at g a)) ≡ statement_length (if_by role) f (lines_at g a)
    unfolding statement_length
    if-is w h = rw (v, turns g (first + 1) old mid t (f (lines_at g a)) e last m r w h)

    pub if-closed : else_by last ≡ false → (new : List ℕ) → new ≡ pour first (t.instructions ∷ []) mid
        → Counts g first old (length_of (t.instructions + 1) m) (statement_length (if_by role) f (lines_at g a)) new
    if-closed h new s =
        let skip = skip_is g (first + 1) old mid t (f (lines_at g a)) e last m r false h in
        subst (λ (x : Extent). Counts g first old (length_of (t.instructions + 1) m) x new) (if-is false h) (record {
          instructions = omega (arith, e.instructions);
          lines = lines-behind g (first + 1) old mid t (f (lines_at g a)) e last m r;
          table = stored first (f (lines_at g a)).skips old refl e.table s (omega (arith, skip));
        })

    -- o is its else block, and fi the line where that ends
    pub if-turned : else_by last ≡ true → (o : Length) (below : List ℕ) → Counts g (first + 1 + t.instructions + 1) mid o (f (lines_at g m)) below
        → (fi : Role) (z : ℕ) → Reads g o.end fi z → (inner new : List ℕ) → inner ≡ pour (first + 1 + t.instructions) (o.instructions ∷ []) below
        → new ≡ pour first ((t.instructions + 1) ∷ []) inner
        → Counts g first old (length_of (t.instructions + o.instructions + 2) z) (statement_length (if_by role) f (lines_at g a)) new
    if-turned h o below k fi z q inner new i s =
        let x = f (lines_at g a) in
        let place = first + 1 + t.instructions + 1 in
        let other = subst (λ (ls : List Line). Counts g place mid o (f ls) below) (lines-behind g (first + 1) old mid t x e last m r) k in
        let y = f (drop 1 x.lines) in
        let skip = skip_is g (first + 1) old mid t x e last m r true h in
        let goto = stored (first + 1 + t.instructions) y.skips mid refl other.table i other.instructions in
        subst (λ (x : Extent). Counts g first old (length_of (t.instructions + o.instructions + 2) z) x new) (if-is true h) (record {
          instructions = omega (arith, e.instructions, other.instructions, length-append x.skips (goto_over y));
          lines = lines-behind g place mid below o _ other fi z q;
          table = stored first (x.skips ++ goto_over y) old refl (both (first + 1) x.skips (goto_over y) old e.instructions e.table goto) s skip;
        })
