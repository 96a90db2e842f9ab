-- The walk of a guide writes no more bytes than three times those that the guide has less 4 for each instruction, and 14 for each answer: the
-- line that a statement writes, at most three times, is at least 4 bytes shorter than its line of the guide, of which none is walked twice, the
-- line of an if or an `else` has more than 4 bytes, and an A line has at most 14.
use Prim.Native.Nat.{ℕ, zero, suc, ◌+◌, ◌*◌, ◌≤◌, ◌<◌}
use native.Mathlib.Omega.{arith}
use mathlib.Core.Path.{◌≡◌, sym, ap, ◌∙◌}
use mathlib.Core.List.{List, [], ◌∷◌}
use mathlib.Core.Bool.{Bool, true, false}
use lib.ListN.{length, drop, length-append}
use lib.IntN.{ℤ}
use Rattle.causes.specs.Answers.{made, Answer, lent}
use Rattle.causes.specs.Answers as answer
use Rattle.causes.specs.Causes.{outcome_number, wrong_answers}
use Rattle.text.specs.Parts.{split, join, comma, LF}
use Rattle.text.proofs.Splits.{join-split}
use Rattle.output.proofs.Poured.{ended}
use Rattle.transcript.specs.declared.Performed.{Performed}
use Rattle.transcript.specs.State.{State, start, step, line_bytes, transcript_bytes}
use Rattle.transcript.specs.Perform.{Ending, goes_on, verdict, waits, outside, perform, holds, state_of, report}
use Rattle.transcript.specs.Machine.{Laid, laid, performed}
use Rattle.statements.proofs.Performs.{first_line}
use Rattle.statements.proofs.Rooms.{state_room, perform-room, answers-room}
use Rattle.machine.proofs.Follow.{lay-bytes}
use Rattle.machine.proofs.Passes.{whole}
use Rattle.lines.specs.declared.Form.TheVariants.{Guide as a_guide}
use Rattle.lines.specs.Line.{Line, phrase, says, if_line, else_line, fi_line, goto_line, if_skip_line, faulty, line_of, lines_in}
use Rattle.lines.proofs.FieldsRead.{ReadAs, as-fault, as-input, as-inputs, as-print, as-printex, as-if, as-else, as-fi, line-read-as}
use Rattle.guide.specs.Lines.{role_of, begins_by, first_role, stops, open_behind, pass, lines_at}
use Rattle.walk_blocks.specs.Descend.{Walker, here, follow, next, at_else, behind_true, leave_true, leave_else, else_block, walk_if}
use Rattle.machine.specs.Ranged.{Ranged}
use Rattle.walk_blocks.specs.Descend.{statement_with, block_with, descend, walk_text}
use Rattle.walk.proofs.Counted.{line_count, lines_count, Counted, guide-counted}

-- ---- what lines still write

-- the statement of a line, with its tries
abbrev shown_by_line : Line → ℕ
shown_by_line (says x) = 3 * length (line_bytes (first_line x))
shown_by_line (phrase t) = 0
shown_by_line (if_line test) = 0
shown_by_line else_line = 0
shown_by_line fi_line = 0
shown_by_line (goto_line k) = 0
shown_by_line (if_skip_line test k) = 0
shown_by_line (faulty c) = 0

abbrev shown_by_lines : List Line → ℕ
shown_by_lines [] = 0
shown_by_lines (l ∷ ls) = shown_by_line l + shown_by_lines ls

-- with 12 bytes for each instruction, what three lines of the guide surely have
abbrev line_size : Line → ℕ
line_size l = shown_by_line l + 12 * line_count l

abbrev lines_size : List Line → ℕ
lines_size ls = shown_by_lines ls + 12 * lines_count ls

-- what k leaves is no more than there was
abbrev Within : Walker → Type 0
Within k = (s : State) (ls : List Line) → state_room (state_of (k s ls).ending) + shown_by_lines (k s ls).lines ≤ state_room s + shown_by_lines ls

-- ---- lines passed

drop-room : (ls : List Line) → shown_by_lines (drop 1 ls) ≤ shown_by_lines ls
drop-room [] = omega arith
drop-room (l ∷ ls) = omega arith

pass-room : (d : ℕ) (ls : List Line) → shown_by_lines (pass d ls) ≤ shown_by_lines ls
unfolding pass
pass-room d [] = omega arith
pass-room d (l ∷ ls) = go (stops (role_of l) d) (pass-room (open_behind (role_of l) d) ls)
  where
    go : (v : Bool) → shown_by_lines (pass (open_behind (role_of l) d) ls) ≤ shown_by_lines ls
        → shown_by_lines (elim v [ true ↦ l ∷ ls | false ↦ pass (open_behind (role_of l) d) ls ]) ≤ shown_by_lines (l ∷ ls)
    go true h = omega arith
    go false h = omega arith

-- ---- the walk over lines

follow-room : (e : Ending) (ls : List Line) (k : Walker) → Within k
    → state_room (state_of (follow e ls k).ending) + shown_by_lines (follow e ls k).lines ≤ state_room (state_of e) + shown_by_lines ls
follow-room (goes_on s) ls k h = h s ls
follow-room (verdict s) ls k h = omega arith
follow-room (waits wrong s) ls k h = omega arith
follow-room (outside s) ls k h = omega arith

next-within : (f k : Walker) → Within f → Within k → Within (λ s ls. next (f s ls) k)
unfolding next
next-within f k h i s ls = omega (arith, follow-room (f s ls).ending (f s ls).lines k i, h s ls)

true-within : Within leave_true
unfolding leave_true
true-within s ls = go (at_else ls)
  where
    go : (v : Bool) → state_room (state_of (behind_true v s ls).ending) + shown_by_lines (behind_true v s ls).lines ≤ state_room s + shown_by_lines ls
    go true = omega (arith, drop-room (pass 0 (drop 1 ls)), pass-room 0 (drop 1 ls), drop-room ls)
    go false = omega (arith, drop-room ls)

else-within : Within leave_else
unfolding leave_else
else-within s ls = omega (arith, drop-room ls)

block_within : (v : Bool) (k : Walker) → Within k → Within (else_block v k)
unfolding else_block
block_within true k h s ls = omega (arith, next-within k leave_else h else-within s (drop 1 ls), drop-room ls)
block_within false k h s ls = omega (arith, drop-room ls)

if-within : (v : Bool) (k : Walker) → Within k → Within (walk_if v k)
unfolding walk_if
if-within true k h s ls = next-within k leave_true h true-within s ls
if-within false k h s ls = omega (arith, block_within (at_else (pass 0 ls)) k h s (pass 0 ls), pass-room 0 ls)

here-within : Within here
here-within s ls = omega arith

statement-within : (k : Walker) → Within k → Within (statement_with k)
unfolding statement_with
statement-within k h s [] = omega arith
statement-within k h s (says x ∷ ls) = omega (arith, follow-room (perform x s) ls here here-within, perform-room x s)
statement-within k h s (if_line test ∷ ls) = omega (arith, if-within (holds test s) k h (step s) ls)
statement-within k h s (phrase t ∷ ls) = omega arith
statement-within k h s (else_line ∷ ls) = omega arith
statement-within k h s (fi_line ∷ ls) = omega arith
statement-within k h s (goto_line n ∷ ls) = omega arith
statement-within k h s (if_skip_line test n ∷ ls) = omega arith
statement-within k h s (faulty c ∷ ls) = omega arith

descend-within : (n : ℕ) → Within (descend n)
unfolding descend block_with
descend-within zero s ls = omega arith
descend-within (suc n) s ls = go (begins_by (first_role ls)) (descend-within n)
  where
    go : (v : Bool) → Within (descend n)
        → state_room (state_of (block_with v (descend n) s ls).ending) + shown_by_lines (block_with v (descend n) s ls).lines ≤ state_room s + shown_by_lines ls
    go true h = next-within (statement_with (descend n)) (descend n) (statement-within (descend n) h) h s ls
    go false h = omega arith

-- ---- the lines of a guide

read-room : {fs : List (List ℕ)} {l : Line} → ReadAs a_guide fs l → line_size l ≤ 3 * suc (length (join comma fs))
unfolding join line_bytes
read-room (as-fault c) = omega arith
read-room (as-input r h) = simp length-append (omega arith)
read-room (as-inputs n r h) = simp length-append (omega arith)
read-room (as-print h) = simp length-append (omega arith)
read-room (as-printex h) = simp length-append (omega arith)
read-room (as-if r o c) = omega arith
read-room as-else = omega arith
read-room as-fi = omega arith

line-room : (t : List ℕ) → line_size (line_of a_guide t) ≤ 3 * suc (length t)
line-room t = rw join-split at (read-room (line-read-as a_guide t))

parts-room : (ps : List (List ℕ)) → lines_size (lines_in a_guide ps) ≤ 3 * length (join LF ps)
unfolding lines_in join
parts-room [] = omega arith
parts-room ([] ∷ []) = omega arith
parts-room ((b ∷ p) ∷ []) = omega arith
parts-room (p ∷ q ∷ ps) = simp length-append (omega (arith, line-room p, parts-room (q ∷ ps)))

guide-room : (g : List ℕ) → lines_size (lines_at g 0) ≤ 3 * length g
unfolding lines_at
guide-room g = omega (arith, parts-room (split LF g), ap length (join-split LF g))

-- ---- the whole walk

text-room : (g : List ℕ) (answers : List ℤ) → Ranged answers
    → length (transcript_bytes (state_of (walk_text g answers)).transcript) + 12 * lines_count (lines_at g 0) ≤ 3 * length g + 14 * length answers
unfolding walk_text start transcript_bytes
text-room g answers h =
    omega (arith, descend-within (length (lines_at g 0)) (start answers) (lines_at g 0), guide-room g, answers-room answers h)

module _ (g : List ℕ) (answers rs : List ℤ) (p : Performed) (o out : List ℕ) (e : performed rs answers p o ≡ laid 0 (walk_text g answers) out) where
  -- a buffer of so many bytes takes it
  pub text-fits : (n : ℕ) → Counted g n → Ranged answers → 3 * length g + 14 * length answers ≤ length out + 12 * n → p.end ≤ length out
  text-fits n c h l =
      let new = transcript_bytes (state_of (walk_text g answers)).transcript in
      omega (arith, ended 0 new out p.end o (lay-bytes rs answers p o 0 (walk_text g answers) out e), text-room g answers h, guide-counted g n c)

  -- it ends in every buffer at the same place
  pub text-ends : (us : List ℤ) (q : Performed) (new old : List ℕ) → performed us answers q new ≡ laid 0 (walk_text g answers) old → p.end ≡ q.end
  unfolding performed laid
  text-ends us q new old f = ap (λ (l : Laid). l.end) e ∙ sym (ap (λ (l : Laid). l.end) f)

  -- and is written whole where it fits
  pub text-written : (x : Answer) → x ≡ answer.ended p.end (outcome_number p.outcome) p.machine.taken p.machine.steps (wrong_answers p.outcome)
      → p.end ≤ length out → length out < 9223372036854775808 → (x, o) ≡ lent (made (report (walk_text g answers))) out
  text-written x d l f = ap (λ (y : Answer). (y, o)) d ∙ whole rs answers (walk_text g answers) p o out e rs p o out e l f
