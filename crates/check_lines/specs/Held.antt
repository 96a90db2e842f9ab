-- What the code holds of the lines seen: the own phrases by their number, and the open ifs in an array.
use Rattle.std.specs.Prelude.{ℕ, zero, suc, ◌+◌, ◌≤◌, ◌≡◌, List, [], ◌∷◌, length, get_or, eqb, Option, None, Some, Result, Ok, Err}
use Rattle.causes.specs.declared.Cause.{Cause}
use Rattle.text.specs.Text.{Text}
use Rattle.transcript.specs.Statement.{input, inputs, print, printex}
use Rattle.lines.specs.declared.Head.{Head}
use Rattle.lines.specs.declared.Head.TheVariants as head
use Rattle.lines.specs.Line.{Line, phrase, says, if_line, else_line, fi_line, goto_line, if_skip_line}
use Rattle.lines.specs.Check.{Open, Seen, cause_of}
use Rattle.lines.specs.Answers.{head_of}
use Rattle.check_lines.specs.declared.seen.Seen.{Seen as Held}

-- the open if at the place d of the array: its line, and 16 places behind it a 1 once its `else` has come
abbrev pub open_at : List ℕ → ℕ → Open
open_at os d = record { line = get_or os d 0; turned = eqb (get_or os (d + 16) 0) 1 }

-- the first d open ifs of the array, the innermost first
unfoldable pub open_ifs : ℕ → List ℕ → List Open
open_ifs zero os = []
open_ifs (suc d) os = open_at os d ∷ open_ifs d os

-- what is seen, where s and the array os are held and these are the own phrases
abbrev pub seen_of : List Text → Held → List ℕ → Seen
seen_of own s os = record { own = own; instructions = s.instructions; ifs = open_ifs s.depth os }

-- the open ifs are in the array
pub record Sound (s : Held) (os : List ℕ) : Type 0 where
  pub depth : s.depth ≤ 16
  pub size : length os ≡ 32

-- s and the array os are held of t
pub record Holds (t : Seen) (s : Held) (os : List ℕ) : Type 0 where
  pub own : length t.own ≡ s.own
  pub rest : seen_of t.own s os ≡ t

-- r and the array ps are held one step f behind s and the array os
pub record Advanced (f : Seen → Seen) (s : Held) (os : List ℕ) (r : Held) (ps : List ℕ) : Type 0 where
  pub holds : (own : List Text) → length own ≡ s.own → Holds (f (seen_of own s os)) r ps
  pub sound : Sound r ps

-- a line with this head, whose text is x
abbrev pub line_with : Text → Head → Line
line_with x head.Phrase = phrase x
line_with x (head.Input r) = says (input r x)
line_with x (head.Inputs r n) = says (inputs r x [])
line_with x head.Print = says (print x)
line_with x head.Printex = says (printex x)
line_with x (head.If t) = if_line t
line_with x head.Else = else_line
line_with x head.Fi = fi_line
line_with x (head.Goto k) = goto_line k
line_with x (head.IfSkip t k) = if_skip_line t k

-- a line with this head has no cause behind lines of which s and the array os are held
pub record Passing (h : Head) (s : Held) (os : List ℕ) : Type 0 where
  pub book : List Text
  pub own : List Text
  pub text : Text
  pub count : length own ≡ s.own
  pub passes : cause_of book (seen_of own s os) (line_with text h) ≡ None

-- of the search for a line's cause
abbrev pub fault_answer : Option Cause → Result Unit Cause
fault_answer None = Ok tt
fault_answer (Some cause) = Err cause

-- the head of a line that has no cause, or the cause
abbrev pub judged_by : Result Head Cause → Option Cause → Result Head Cause
judged_by head None = head
judged_by head (Some cause) = Err cause

-- a line behind what is seen: its head, or its lowest cause
abbrev pub judged : List Text → Seen → Line → Result Head Cause
judged book s l = judged_by (head_of l) (cause_of book s l)
