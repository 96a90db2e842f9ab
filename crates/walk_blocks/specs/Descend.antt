-- The walk over the lines of blocks, as the code goes: a block is a statement, and then the rest of the block.
use Rattle.std.specs.Prelude.{ℕ, zero, suc, List, [], ◌∷◌, Bool, true, false, length, drop, ℤ}
use Rattle.transcript.specs.State.{State, start, step}
use Rattle.transcript.specs.Perform.{Ending, goes_on, verdict, waits, outside, perform, holds}
use Rattle.lines.specs.Line.{Line, phrase, says, if_line, else_line, fi_line, goto_line, if_skip_line, faulty}
use Rattle.guide.specs.Lines.{first_role, begins_by, else_by, lines_at, pass}

-- how a block is left, and the lines behind it where the walk goes on
pub record Left : Type 0 where
  pub ending : Ending
  pub lines : List Line

-- walks a block, up to its `else`, its `fi` or the end
abbrev pub Walker : Type 0
Walker = State → List Line → Left

-- the walk goes on at these lines
abbrev pub here : Walker
here s ls = record { ending = goes_on s; lines = ls }

-- what follows an ending, where the walk goes on at these lines
abbrev pub follow : Ending → List Line → Walker → Left
follow (goes_on s) ls k = k s ls
follow (verdict s) ls k = record { ending = verdict s; lines = [] }
follow (waits wrong s) ls k = record { ending = waits wrong s; lines = [] }
follow (outside s) ls k = record { ending = outside s; lines = [] }

unfoldable pub next : Left → Walker → Left
next w k = follow w.ending w.lines k

-- ---- the blocks of an if, which k walks

-- whether these lines begin with an `else`
abbrev pub at_else : List Line → Bool
at_else ls = else_by (first_role ls)

-- behind the true block: with an `else` line one step, and the else block is passed over
abbrev pub behind_true : Bool → Walker
behind_true true s ls = here (step s) (drop 1 (pass 0 (drop 1 ls)))
behind_true false s ls = here s (drop 1 ls)

unfoldable pub leave_true : Walker
leave_true s ls = behind_true (at_else ls) s ls

-- behind the else block
unfoldable pub leave_else : Walker
leave_else s ls = here s (drop 1 ls)

-- from the end of the true block on, which has been passed over
unfoldable pub else_block : Bool → Walker → Walker
else_block true k s ls = next (k s (drop 1 ls)) leave_else
else_block false k s ls = here s (drop 1 ls)

-- from the true block on
unfoldable pub walk_if : Bool → Walker → Walker
walk_if true k s ls = next (k s ls) leave_true
walk_if false k s ls = else_block (at_else (pass 0 ls)) k s (pass 0 ls)

-- ---- a statement and a block

-- the statement whose line is l, with the lines behind it
abbrev pub statement_line : Line → Walker → Walker
statement_line (says x) k s ls = follow (perform x s) ls here
statement_line (if_line test) k s ls = walk_if (holds test s) k (step s) ls
statement_line (phrase t) k s ls = here s ls
statement_line else_line k s ls = here s ls
statement_line fi_line k s ls = here s ls
statement_line (goto_line n) k s ls = here s ls
statement_line (if_skip_line test n) k s ls = here s ls
statement_line (faulty c) k s ls = here s ls

unfoldable pub statement_with : Walker → Walker
statement_with k s [] = here s []
statement_with k s (l ∷ ls) = statement_line l k s ls

-- true: a statement begins here
unfoldable pub block_with : Bool → Walker → Walker
block_with true k s ls = next (statement_with k s ls) k
block_with false k s ls = here s ls

-- n is no less than the lines left
unfoldable pub descend : ℕ → Walker
descend zero s ls = here s ls
descend (suc n) s ls = block_with (begins_by (first_role ls)) (descend n) s ls

-- the walk over a guide's lines
unfoldable pub walk_text : List ℕ → List ℤ → Ending
walk_text g answers = (descend (length (lines_at g 0)) (start answers) (lines_at g 0)).ending
