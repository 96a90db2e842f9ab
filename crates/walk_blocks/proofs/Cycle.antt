-- The walk over lines at each place where the code's block, its statement and the blocks of an if return.
use Prim.Native.Nat.{ℕ, zero, suc, ◌-◌, ◌≤◌, ◌<◌}
use native.Mathlib.Omega.{arith}
use native.Mathlib.Numerals.{sub-one}
use mathlib.Core.Path.{◌≡◌, refl, sym, ap, ◌∙◌}
use mathlib.Core.List.{List, ◌∷◌}
use mathlib.Core.Bool.{Bool, true, false}
use lib.ListN.{length, drop}
use lib.IntN.{ℤ}
use Rattle.transcript.specs.State.{State, step}
use Rattle.transcript.specs.Machine.{machine_state}
use Rattle.lines.specs.declared.Form.TheVariants.{Guide as a_guide}
use Rattle.lines.specs.Line.{Line, line_of}
use Rattle.guide.specs.declared.Here.{Here}
use Rattle.guide.specs.declared.Role.{Role}
use Rattle.guide.specs.Lines.{first_role, begins_by, else_by, lines_at, pass, line_text, Reads, ReadsLine}
use Rattle.guide.proofs.Reading.{begins-less}
use Rattle.guide.proofs.Passing.{passed-no-more}
use Rattle.walk_blocks.specs.declared.Walked.{Walked}
use Rattle.walk_blocks.specs.Descend.{here, next, at_else, leave_true, leave_else, else_block, walk_if, statement_with, block_with, descend}
use Rattle.walk_blocks.specs.Leaves.{Leaves, LeavesFrom}
use Rattle.walk_blocks.specs.Says.{is_end}
use Rattle.walk_blocks.proofs.Adding.{true-adds, else-adds, descend-adds}
use Rattle.walk_blocks.proofs.Leaving.{leaves-as, leaves-ended, leaves-goes}

module _ (n : ℕ) (s : State) (ls : List Line) where
  pub descend-ends : begins_by (first_role ls) ≡ false → here s ls ≡ descend n s ls
  unfolding descend block_with
  descend-ends v = go n
    where
      go : (n : ℕ) → here s ls ≡ descend n s ls
      go zero = refl
      go (suc n) = rw v

  descend-more : 0 < n → begins_by (first_role ls) ≡ true → next (statement_with (descend (n - 1)) s ls) (descend (n - 1)) ≡ descend n s ls
  unfolding descend block_with
  descend-more l v = go n l
    where
      go : (n : ℕ) → 0 < n → next (statement_with (descend (n - 1)) s ls) (descend (n - 1)) ≡ descend n s ls
      go zero l = absurd (omega arith)
      go (suc n) l = rw (sub-one, v)

-- ---- behind the blocks of an if

module _ (g : List ℕ) (a : ℕ) (role : Role) (n : ℕ) (r : Reads g a role n) where
  at-else : {v : Bool} → else_by role ≡ v → at_else (lines_at g a) ≡ v
  at-else e = ap else_by (sym r.role) ∙ e

  -- the else block is passed over
  pub leave-turned : (p : ℕ) (other : Role) (m : ℕ) (s t : State) → else_by role ≡ true → lines_at g p ≡ pass 0 (lines_at g n) → Reads g p other m
      → t ≡ step s → here t (lines_at g m) ≡ leave_true s (lines_at g a)
  unfolding leave_true
  leave-turned p other m s t v e q c =
      let behind : lines_at g m ≡ drop 1 (pass 0 (drop 1 (lines_at g a))) = q.rest ∙ ap (drop 1) (e ∙ ap (pass 0) r.rest) in
      rw (at-else v, behind, c) refl

  pub leave-closed : (s : State) → else_by role ≡ false → here s (lines_at g n) ≡ leave_true s (lines_at g a)
  unfolding leave_true
  leave-closed s v = rw (at-else v, r.rest) refl

  pub leave-second : (s : State) → here s (lines_at g n) ≡ leave_else s (lines_at g a)
  unfolding leave_else
  leave-second s = rw r.rest refl

-- ---- a block and the rest of it

-- the block that begins at a is left so
abbrev pub BlockLeft : List ℕ → List ℤ → ℕ → State → Walked → List ℤ → List ℕ → ℕ → List ℕ → Type 0
BlockLeft g answers a s w rs o at out = LeavesFrom g a answers w rs o at (λ n. descend n s (lines_at g a)) out

-- what leaves the block from the place a on so, leaves the whole block so, which begins at b, is walked from t, and is written from `first` on
-- into `old`
abbrev pub Rest : List ℕ → List ℤ → ℕ → State → ℕ → List ℕ → ℕ → State → ℕ → List ℕ → Type 0
Rest g answers a s at out b t first old =
    (w : Walked) (rs : List ℤ) (o : List ℕ) → BlockLeft g answers a s w rs o at out → BlockLeft g answers b t w rs o first old

-- ---- what is left

module _ (g : List ℕ) (answers : List ℤ) (at : ℕ) (out : List ℕ) where
  -- no statement begins at a
  pub block-ends : (a : ℕ) (s : State) (w : Walked) (rs : List ℤ) (o : List ℕ) → begins_by (first_role (lines_at g a)) ≡ false
      → Leaves g answers w rs o at (here s (lines_at g a)) out → BlockLeft g answers a s w rs o at out
  block-ends a s w rs o v f n l = leaves-as g answers w rs o at _ out f _ (descend-ends n s (lines_at g a) v)

  -- a statement begins at a, and its line is h
  module _ (a : ℕ) (s : State) (h : Here) (r : ReadsLine g a h) (v : begins_by h.role ≡ true) (w : Walked) (rs : List ℤ) (o : List ℕ)
      (f : LeavesFrom g h.next answers w rs o at (λ n. statement_with (descend n) s (line_of a_guide (line_text g h) ∷ lines_at g h.next)) out) where
    less : length (lines_at g h.next) < length (lines_at g a)
    less = begins-less g a h.role h.next r.reads v

    begun : (n : ℕ) → length (lines_at g a) ≤ n
        → next (statement_with (descend (n - 1)) s (line_of a_guide (line_text g h) ∷ lines_at g h.next)) (descend (n - 1))
        ≡ descend n s (lines_at g a)
    begun n l =
        ap (λ (ls : List Line). next (statement_with (descend (n - 1)) s ls) (descend (n - 1))) (sym r.first.lines)
        ∙ descend-more n s (lines_at g a) (omega (arith, less)) (ap begins_by (sym r.reads.role) ∙ v)

    pub block-ended : is_end w.left.outcome ≡ false → BlockLeft g answers a s w rs o at out
    block-ended i n l =
        leaves-as g answers w rs o at _ out
        (leaves-ended g answers w rs o at _ out (f (n - 1) (omega (arith, less))) (descend (n - 1)) i)
        _
        (begun n l)

    pub block_goes : (x : Walked) (us : List ℤ) (new : List ℕ) → is_end w.left.outcome ≡ true
        → length (lines_at g w.place) ≤ length (lines_at g h.next)
        → BlockLeft g answers w.place (machine_state rs answers w.left.machine) x us new w.left.end o
        → length out < 9223372036854775808 → BlockLeft g answers a s x us new at out
    block_goes x us new i m k room n l =
        leaves-as g answers x us new at _ out
        (leaves-goes g answers w rs o at _ out (f (n - 1) (omega (arith, less))) (descend (n - 1)) x us new i (descend-adds (n - 1))
        (k (n - 1) (omega (arith, less, m)))
        room)
        _
        (begun n l)

  -- ---- the true block

  module _ (a : ℕ) (s : State) (w : Walked) (rs : List ℤ) (o : List ℕ) (f : BlockLeft g answers a s w rs o at out) where
    pub true-ended : is_end w.left.outcome ≡ false → LeavesFrom g a answers w rs o at (λ n. walk_if true (descend n) s (lines_at g a)) out
    unfolding walk_if
    true-ended i n l = leaves-ended g answers w rs o at _ out (f n l) leave_true i

    pub true-goes : (x : Walked) (us : List ℤ) (new : List ℕ) → is_end w.left.outcome ≡ true
        → Leaves g answers x us new w.left.end (leave_true (machine_state rs answers w.left.machine) (lines_at g w.place)) o
        → length out < 9223372036854775808 → LeavesFrom g a answers x us new at (λ n. walk_if true (descend n) s (lines_at g a)) out
    unfolding walk_if
    true-goes x us new i k room n l = leaves-goes g answers w rs o at _ out (f n l) leave_true x us new i true-adds k room

  -- ---- the else block: the true block has been passed over, and h is the first line from its end p on

  module _ (a p : ℕ) (s : State) (role : Role) (place : ℕ) (e : lines_at g p ≡ pass 0 (lines_at g a)) (r : Reads g p role place) where
    pub no-else : (w : Walked) (rs : List ℤ) (o : List ℕ) → else_by role ≡ false → Leaves g answers w rs o at (here s (lines_at g place)) out
        → LeavesFrom g a answers w rs o at (λ n. walk_if false (descend n) s (lines_at g a)) out
    unfolding walk_if else_block
    no-else w rs o v f n l = leaves-as g answers w rs o at _ out f _ (rw (← e, at-else g p role place r v, r.rest) refl)

    module _ (v : else_by role ≡ true) (w : Walked) (rs : List ℤ) (o : List ℕ) (f : BlockLeft g answers place s w rs o at out) where
      turned : (n : ℕ) → next (descend n s (lines_at g place)) leave_else ≡ walk_if false (descend n) s (lines_at g a)
      unfolding walk_if else_block
      turned n = rw (← e, at-else g p role place r v, r.rest) refl

      left : (n : ℕ) → length (lines_at g a) ≤ n → Leaves g answers w rs o at (descend n s (lines_at g place)) out
      left n l = f n (omega (arith, passed-no-more g a p role place e r))

      pub else-ended : is_end w.left.outcome ≡ false → LeavesFrom g a answers w rs o at (λ n. walk_if false (descend n) s (lines_at g a)) out
      else-ended i n l = leaves-as g answers w rs o at _ out (leaves-ended g answers w rs o at _ out (left n l) leave_else i) _ (turned n)

      pub else-goes : (x : Walked) (us : List ℤ) (new : List ℕ) → is_end w.left.outcome ≡ true
          → Leaves g answers x us new w.left.end (leave_else (machine_state rs answers w.left.machine) (lines_at g w.place)) o
          → length out < 9223372036854775808 → LeavesFrom g a answers x us new at (λ n. walk_if false (descend n) s (lines_at g a)) out
      else-goes x us new i k room n l =
          leaves-as g answers x us new at _ out (leaves-goes g answers w rs o at _ out (left n l) leave_else x us new i else-adds k room) _ (turned n)
