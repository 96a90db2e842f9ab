-- Document 01, "Causes": the check of a guide or a listing over its lines, "line by line 3 to 7 and 9, on one line the lowest; at the
-- end 7 for an open if".
use Rattle.std.specs.Prelude.{ℕ, suc, List, [], ◌∷◌, ◌++◌, Bool, true, false, cond, ◌&&◌, length, drop, leb, ltb, eqb, Option, None, Some}
use Rattle.causes.specs.Answers.{Result, made, refused, ◌>>=◌}
use Rattle.causes.specs.Limits.{most_guide_bytes, most_listing_bytes, most_own, most_levels, most_instructions}
use Rattle.causes.specs.declared.Cause.{Cause}
use Rattle.causes.specs.declared.Cause.TheVariants.{TooLong, Phrase, Nesting, Instructions}
use Rattle.text.specs.Parts.{split, LF}
use Rattle.text.specs.Text.{Text}
use Rattle.phrases.specs.Phrases.{is_new}
use Rattle.lines.specs.declared.Form.{Form}
use Rattle.lines.specs.declared.Form.TheVariants.{Guide, Listing}
use Rattle.lines.specs.Line.{
  Line,
  phrase,
  says,
  if_line,
  else_line,
  fi_line,
  goto_line,
  if_skip_line,
  faulty,
  lines_in,
}

-- an if that is open: its line, and whether its `else` has come
pub record Open : Type 0 where
  pub line : ℕ
  pub turned : Bool

-- what the lines so far hold: the own phrases, the number of instructions, and the ifs that are open, the innermost first
pub record Seen : Type 0 where
  pub own : List Text
  pub instructions : ℕ
  pub ifs : List Open

-- before the first line
abbrev pub nothing_seen : Seen
nothing_seen = record { own = []; instructions = 0; ifs = [] }

-- "513th instruction (an else line is one)": 9
abbrev pub room_cause : Seen → Option Cause
room_cause s = cond (ltb s.instructions most_instructions) None (Some Instructions)

-- in a listing, "phrase late, 33rd, or repeated": 6. A line of another kind came before where there is an instruction, since the first such
-- line that is no fault is one
abbrev pub phrase_cause : List Text → Seen → Text → Option Cause
phrase_cause book s t =
    cond (eqb s.instructions 0 && ltb (length s.own) most_own && is_new book s.own t) None (Some Phrase)

-- "else .. without its if, second else": 7
abbrev pub else_cause : List Open → Option Cause → Option Cause
else_cause [] room = Some Nesting
else_cause (o ∷ os) room = cond o.turned (Some Nesting) room

-- "fi without its if": 7
abbrev pub fi_cause : List Open → Option Cause
fi_cause [] = Some Nesting
fi_cause (o ∷ os) = None

-- the lowest cause of a line behind the lines seen, if it has one
abbrev pub cause_of : List Text → Seen → Line → Option Cause
cause_of book s (phrase t) = phrase_cause book s t
cause_of book s (says x) = room_cause s
-- "17th level": 7
cause_of book s (if_line t) = cond (ltb (length s.ifs) most_levels) (room_cause s) (Some Nesting)
cause_of book s else_line = else_cause s.ifs (room_cause s)
cause_of book s fi_line = fi_cause s.ifs
cause_of book s (goto_line k) = room_cause s
cause_of book s (if_skip_line t k) = room_cause s
cause_of book s (faulty c) = Some c

-- one instruction more, and these ifs open
abbrev pub one_more_instruction : List Open → Seen → Seen
one_more_instruction ifs s = record { own = s.own; instructions = suc s.instructions; ifs = ifs }

-- the innermost if has had its `else`
abbrev pub turn : List Open → List Open
turn [] = []
turn (o ∷ os) = record { line = o.line; turned = true } ∷ os

-- what is seen with line n
abbrev pub next : ℕ → Line → Seen → Seen
next n (phrase t) s = record { own = s.own ++ (t ∷ []); instructions = s.instructions; ifs = s.ifs }
next n (says x) s = one_more_instruction s.ifs s
next n (if_line t) s = one_more_instruction (record { line = n; turned = false } ∷ s.ifs) s
next n else_line s = one_more_instruction (turn s.ifs) s
next n fi_line s = record { own = s.own; instructions = s.instructions; ifs = drop 1 s.ifs }
next n (goto_line k) s = one_more_instruction s.ifs s
next n (if_skip_line t k) s = one_more_instruction s.ifs s
next n (faulty c) s = s

-- "if left open (line of the innermost)": 7
abbrev pub at_end : List Open → Seen → Result Seen
at_end [] s = made s
at_end (o ∷ os) s = refused Nesting o.line

-- the lines from line n on, behind the lines seen
unfoldable pub check_from : List Text → ℕ → Seen → List Line → Result Seen
check_from book n s [] = at_end s.ifs s
check_from book n s (l ∷ ls) =
    elim (cause_of book s l) [ None ↦ check_from book (suc n) (next n l s) ls | Some cause ↦ refused cause n ]

-- "A guide has at most 16,384 bytes"; a listing "at most 327,680 bytes"
abbrev pub most_bytes : Form → ℕ
most_bytes Guide = most_guide_bytes
most_bytes Listing = most_listing_bytes

-- the lines of a text
abbrev pub lines_of : Form → List ℕ → List Line
lines_of form text = lines_in form (split LF text)

-- the lines of an accepted text, and its own phrases
pub record Accepted : Type 0 where
  pub own : List Text
  pub lines : List Line

-- "Lines count from 1"
unfoldable pub check_lines : List Text → List Line → Result Accepted
check_lines book ls = do
  s ← check_from book 1 nothing_seen ls
  made (record { own = s.own; lines = ls })

-- "guide or listing too long": 2, before the lines
unfoldable pub accept : Form → List Text → List ℕ → Result Accepted
accept form book text =
    cond (leb (length text) (most_bytes form)) (check_lines book (lines_of form text)) (refused TooLong 0)
