-- The walk over the lines of a block is the walk of the block.
use Prim.Native.Nat.{ℕ, zero, suc, ◌≤◌}
use native.Mathlib.Omega.{arith}
use mathlib.Core.Path.{◌≡◌, refl, sym, ap, ◌∙◌}
use mathlib.Core.List.{List, [], ◌∷◌, ◌++◌, append_assoc, append-nil}
use mathlib.Core.Bool.{Bool, true, false, false≢true}
use lib.ListN.{length, length-append}
use Rattle.transcript.specs.State.{State, step}
use Rattle.transcript.specs.Perform.{Ending, goes_on, verdict, waits, outside, and_then, perform, holds}
use Rattle.lines.specs.Line.{Line, else_line, fi_line}
use Rattle.guide.specs.declared.Role.{Role}
use Rattle.guide.specs.declared.Role.TheVariants.{Statement, If, Else, Fi, Nothing}
use Rattle.guide.specs.Block.{Block, empty, does, if_then, if_else}
use Rattle.guide.specs.Lines.{first_role, begins_by, stops, pass}
use Rattle.guide.proofs.Blocks.{block_lines}
use Rattle.walking.specs.Walk.{walk, leave}
use Rattle.walk_blocks.specs.Descend.{Left, Walker, here, follow, next, at_else, leave_true, leave_else, else_block, walk_if, statement_with, block_with, descend}
use Rattle.walk_blocks.proofs.Leaving.{follow-here}
use Rattle.walk_blocks.proofs.Cycle.{descend-ends}

-- ---- a block passed over

pass-block : (b : Block) (d : ℕ) (rest : List Line) → pass d (block_lines b ++ rest) ≡ pass d rest
unfolding pass block_lines
pass-block empty d rest = refl
pass-block (does x b) d rest = pass-block b d rest
pass-block (if_then test t b) d rest =
    ap (pass (suc d)) (append_assoc (block_lines t) (fi_line ∷ block_lines b) rest)
    ∙ pass-block t (suc d) (fi_line ∷ (block_lines b ++ rest))
    ∙ pass-block b d rest
pass-block (if_else test t e b) d rest =
    ap (pass (suc d)) regroup
    ∙ pass-block t (suc d) (else_line ∷ (block_lines e ++ (fi_line ∷ (block_lines b ++ rest))))
    ∙ pass-block e (suc d) (fi_line ∷ (block_lines b ++ rest))
    ∙ pass-block b d rest
  where
    regroup : (block_lines t ++ (else_line ∷ (block_lines e ++ (fi_line ∷ block_lines b)))) ++ rest
        ≡ block_lines t ++ (else_line ∷ (block_lines e ++ (fi_line ∷ (block_lines b ++ rest))))
    regroup = simp append_assoc

-- ---- what follows a block

module _ (k : Walker) where
  follow-next : (e : Ending) (ls : List Line) → next (follow e ls here) k ≡ follow e ls k
  unfolding next
  follow-next (goes_on s) ls = refl
  follow-next (verdict s) ls = refl
  follow-next (waits wrong s) ls = refl
  follow-next (outside s) ls = refl

  -- k walks the block b, whose lines ls are, up to `rest`
  module _ (b : State → Ending) (ls rest : List Line) (h : (s : State) → k s ls ≡ follow (b s) rest here) where
    follow-block : (e : Ending) → follow e ls k ≡ follow (and_then e b) rest here
    follow-block (goes_on s) = h s
    follow-block (verdict s) = refl
    follow-block (waits wrong s) = refl
    follow-block (outside s) = refl

    -- behind a true block that ends at its `fi`
    behind-fi : (e : Ending) → next (next (follow e (fi_line ∷ ls) here) leave_true) k ≡ follow (and_then e b) rest here
    unfolding next leave_true
    behind-fi (goes_on s) = h s
    behind-fi (verdict s) = refl
    behind-fi (waits wrong s) = refl
    behind-fi (outside s) = refl

    -- behind a true block that ends at its `else`
    behind-else : (e : Ending) (os : List Line) → pass 0 os ≡ fi_line ∷ ls
        → next (next (follow e (else_line ∷ os) here) leave_true) k ≡ follow (and_then (and_then e leave) b) rest here
    unfolding next leave_true
    behind-else (goes_on s) os p = rw p (h (step s))
    behind-else (verdict s) os p = refl
    behind-else (waits wrong s) os p = refl
    behind-else (outside s) os p = refl

    -- behind an else block
    behind-second : (e : Ending) → next (next (follow e (fi_line ∷ ls) here) leave_else) k ≡ follow (and_then e b) rest here
    unfolding next leave_else
    behind-second (goes_on s) = h s
    behind-second (verdict s) = refl
    behind-second (waits wrong s) = refl
    behind-second (outside s) = refl

    -- an if without an `else` line, whose true block k walks too
    if-walked : (v : Bool) (t : State → Ending) (ts : List Line) (s : State) → k s ts ≡ follow (t s) (fi_line ∷ ls) here
        → pass 0 ts ≡ fi_line ∷ ls
        → next (walk_if v k s ts) k ≡ follow (and_then (elim v [ true ↦ t s | false ↦ goes_on s ]) b) rest here
    unfolding walk_if else_block next
    if-walked true t ts s e p = ap (λ (w : Left). next (next w leave_true) k) e ∙ behind-fi (t s)
    if-walked false t ts s e p = ap (λ (l : List Line). next (else_block (at_else l) k s l) k) p ∙ h s

    -- an if with an `else` line, whose blocks k walks too
    else-walked : (v : Bool) (t o : State → Ending) (ts os : List Line) (s : State) → k s ts ≡ follow (t s) (else_line ∷ os) here
        → k s os ≡ follow (o s) (fi_line ∷ ls) here → pass 0 ts ≡ else_line ∷ os → pass 0 os ≡ fi_line ∷ ls
        → next (walk_if v k s ts) k ≡ follow (and_then (elim v [ true ↦ and_then (t s) leave | false ↦ o s ]) b) rest here
    unfolding walk_if else_block
    else-walked true t o ts os s e f p q = ap (λ (w : Left). next (next w leave_true) k) e ∙ behind-else (t s) os q
    else-walked false t o ts os s e f p q =
        ap (λ (l : List Line). next (else_block (at_else l) k s l) k) p ∙ ap (λ (w : Left). next (next w leave_else) k) f ∙ behind-second (o s)

-- ---- the whole block

no-begin : (r : Role) → stops r 0 ≡ true → begins_by r ≡ false
no-begin Statement h = absurd (false≢true h)
no-begin If h = absurd (false≢true h)
no-begin Else h = refl
no-begin Fi h = refl
no-begin Nothing h = refl

walk_block : (b : Block) (n : ℕ) (s : State) (rest : List Line) → stops (first_role rest) 0 ≡ true → length (block_lines b ++ rest) ≤ n
    → descend n s (block_lines b ++ rest) ≡ follow (walk b s) rest here
unfolding descend block_with statement_with walk block_lines pass
walk_block empty n s rest c l = sym (descend-ends n s rest (no-begin (first_role rest) c))
walk_block (does x b) zero s rest c l = absurd (omega arith)
walk_block (does x b) (suc n) s rest c l =
    follow-next (descend n) (perform x s) (block_lines b ++ rest)
    ∙ follow-block (descend n) (walk b) (block_lines b ++ rest) rest (λ u. walk_block b n u rest c (omega arith)) (perform x s)
walk_block (if_then test t b) zero s rest c l = absurd (omega arith)
walk_block (if_then test t b) (suc n) s rest c l =
    let ls = block_lines b ++ rest in
    let group = append_assoc (block_lines t) (fi_line ∷ block_lines b) rest in
    let size : length (block_lines t ++ (fi_line ∷ ls)) ≤ n = omega (arith, ap length group) in
    let inner : length ls ≤ n = omega (arith, length-append (block_lines t) (fi_line ∷ ls)) in
    ap (λ (l : List Line). next (walk_if (holds test s) (descend n) (step s) l) (descend n)) group
    ∙ if-walked (descend n) (walk b) ls rest (λ u. walk_block b n u rest c inner) (holds test s) (walk t) (block_lines t ++ (fi_line ∷ ls)) (step s)
    (walk_block t n (step s) (fi_line ∷ ls) refl size)
    (pass-block t 0 (fi_line ∷ ls))
walk_block (if_else test t o b) zero s rest c l = absurd (omega arith)
walk_block (if_else test t o b) (suc n) s rest c l =
    let ls = block_lines b ++ rest in
    let os = block_lines o ++ (fi_line ∷ ls) in
    let ts = block_lines t ++ (else_line ∷ os) in
    let group : (block_lines t ++ (else_line ∷ (block_lines o ++ (fi_line ∷ block_lines b)))) ++ rest ≡ ts = simp append_assoc in
    let size : length ts ≤ n = omega (arith, ap length group) in
    let second : length os ≤ n = omega (arith, length-append (block_lines t) (else_line ∷ os)) in
    let inner : length ls ≤ n = omega (arith, length-append (block_lines o) (fi_line ∷ ls)) in
    ap (λ (l : List Line). next (walk_if (holds test s) (descend n) (step s) l) (descend n)) group
    ∙ else-walked (descend n) (walk b) ls rest (λ u. walk_block b n u rest c inner) (holds test s) (walk t) (walk o) ts os (step s)
    (walk_block t n (step s) (else_line ∷ os) refl size)
    (walk_block o n (step s) (fi_line ∷ ls) refl second)
    (pass-block t 0 (else_line ∷ os))
    (pass-block o 0 (fi_line ∷ ls))

-- lines that are those of one block
pub walk-lines : (ls : List Line) (b : Block) (s : State) → block_lines b ≡ ls → (descend (length ls) s ls).ending ≡ walk b s
walk-lines ls b s e =
    let p : block_lines b ++ [] ≡ ls = append-nil (block_lines b) ∙ e in
    ap (λ (k : List Line). (descend (length k) s k).ending) (sym p)
    ∙ ap (λ (w : Left). w.ending) (walk_block b (length (block_lines b ++ [])) s [] refl (omega arith))
    ∙ sym (follow-here (walk b s) [])
