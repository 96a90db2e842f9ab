-- A walk over lines only adds to the transcript: behind other transcript lines it does the same.
use Prim.Native.Nat.{ℕ, zero, suc}
use mathlib.Core.Path.{◌≡◌, refl, ap, ◌∙◌}
use mathlib.Core.List.{List, [], ◌∷◌}
use mathlib.Core.Bool.{Bool, true, false}
use lib.ListN.{drop}
use Rattle.transcript.specs.State.{TranscriptLine, State, step}
use Rattle.transcript.specs.Perform.{Ending, goes_on, verdict, waits, outside, perform, holds}
use Rattle.transcript.proofs.Natural.{behind, behind_ending, perform-natural, holds-behind}
use Rattle.lines.specs.Line.{Line, phrase, says, if_line, else_line, fi_line, goto_line, if_skip_line, faulty}
use Rattle.guide.specs.Lines.{first_role, begins_by, pass}
use Rattle.walk_blocks.specs.Descend.{Left, Walker, here, follow, next, at_else, behind_true, leave_true, leave_else, else_block, walk_if}
use Rattle.walk_blocks.specs.Descend.{statement_line, statement_with, block_with, descend}

abbrev behind_left : List TranscriptLine → Left → Left
behind_left t w = record { ending = behind_ending t w.ending; lines = w.lines }

-- what k does adds to the transcript, and does not depend on it
abbrev pub Adds : Walker → Type 0
Adds k = (t : List TranscriptLine) (s : State) (ls : List Line) → k (behind t s) ls ≡ behind_left t (k s ls)

follow-adds : (t : List TranscriptLine) (e : Ending) (ls : List Line) (k : Walker) → Adds k
    → follow (behind_ending t e) ls k ≡ behind_left t (follow e ls k)
follow-adds t (goes_on s) ls k h = h t s ls
follow-adds t (verdict s) ls k h = refl
follow-adds t (waits wrong s) ls k h = refl
follow-adds t (outside s) ls k h = refl

next-adds : (f k : Walker) → Adds f → Adds k → Adds (λ s ls. next (f s ls) k)
unfolding next
next-adds f k h i t s ls = ap (λ (w : Left). follow w.ending w.lines k) (h t s ls) ∙ follow-adds t (f s ls).ending (f s ls).lines k i

pub true-adds : Adds leave_true
unfolding leave_true
true-adds t s ls = go (at_else ls)
  where
    go : (v : Bool) → behind_true v (behind t s) ls ≡ behind_left t (behind_true v s ls)
    go true = refl
    go false = refl

pub else-adds : Adds leave_else
unfolding leave_else
else-adds t s ls = refl

block-adds : (v : Bool) (k : Walker) → Adds k → Adds (else_block v k)
unfolding else_block
block-adds true k h t s ls = next-adds (λ s ls. k s (drop 1 ls)) leave_else (λ t s ls. h t s (drop 1 ls)) else-adds t s ls
block-adds false k h t s ls = refl

if-adds : (v : Bool) (k : Walker) → Adds k → Adds (walk_if v k)
unfolding walk_if
if-adds true k h t s ls = next-adds k leave_true h true-adds t s ls
if-adds false k h t s ls = block-adds (at_else (pass 0 ls)) k h t s (pass 0 ls)

line-adds : (l : Line) (k : Walker) → Adds k → Adds (statement_line l k)
line-adds (says x) k h t s ls = ap (λ (e : Ending). follow e ls here) (perform-natural x t s) ∙ follow-adds t (perform x s) ls here (λ t s ls. refl)
line-adds (if_line test) k h t s ls = rw (holds-behind test t s) (if-adds (holds test s) k h t (step s) ls)
line-adds (phrase x) k h t s ls = refl
line-adds else_line k h t s ls = refl
line-adds fi_line k h t s ls = refl
line-adds (goto_line n) k h t s ls = refl
line-adds (if_skip_line test n) k h t s ls = refl
line-adds (faulty c) k h t s ls = refl

statement-adds : (k : Walker) → Adds k → Adds (statement_with k)
unfolding statement_with
statement-adds k h t s [] = refl
statement-adds k h t s (l ∷ ls) = line-adds l k h t s ls

pub descend-adds : (n : ℕ) → Adds (descend n)
unfolding descend block_with
descend-adds zero t s ls = refl
descend-adds (suc n) t s ls = go (begins_by (first_role ls)) (descend-adds n)
  where
    go : (v : Bool) → Adds (descend n) → block_with v (descend n) (behind t s) ls ≡ behind_left t (block_with v (descend n) s ls)
    go true h = next-adds (statement_with (descend n)) (descend n) (statement-adds (descend n) h) h t s ls
    go false h = refl
