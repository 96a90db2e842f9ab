-- What the code answers for a line, and for a whole text.
use Rattle.std.specs.Prelude.{ℕ, ◌≡◌, List, cond, length, leb, Result, Ok, Err}
use Rattle.causes.specs.Answers as call
use Rattle.causes.specs.declared.Cause.{Cause}
use Rattle.causes.specs.declared.Cause.TheVariants.{TooLong}
use Rattle.causes.specs.declared.Refusal.{Refusal}
use Rattle.text.specs.Text.{Text}
use Rattle.transcript.specs.Statement.{input, inputs, print, printex}
use Rattle.lines.specs.declared.Form.{Form}
use Rattle.lines.specs.declared.Head.{Head}
use Rattle.lines.specs.declared.Head.TheVariants as head
use Rattle.lines.specs.declared.Counts.{Counts}
use Rattle.lines.specs.Line.{
  Line,
  phrase,
  says,
  if_line,
  else_line,
  fi_line,
  goto_line,
  if_skip_line,
  faulty,
  line_of,
}
use Rattle.lines.specs.Check.{Seen, nothing_seen, check_from, most_bytes, lines_of}

-- a line without its texts, or its cause
abbrev pub head_of : Line → Result Head Cause
head_of (phrase t) = Ok head.Phrase
head_of (says (input r t)) = Ok (head.Input r)
head_of (says (inputs r t options)) = Ok (head.Inputs r (length options))
head_of (says (print t)) = Ok head.Print
head_of (says (printex t)) = Ok head.Printex
head_of (if_line test) = Ok (head.If test)
head_of else_line = Ok head.Else
head_of fi_line = Ok head.Fi
head_of (goto_line k) = Ok (head.Goto k)
head_of (if_skip_line test k) = Ok (head.IfSkip test k)
head_of (faulty cause) = Err cause

-- the head of the line s, which has no cause by itself, in a guide or in a listing
abbrev pub Heads : Head → List ℕ → Type 0
Heads h s = (form : Form) × (Ok h ≡ head_of (line_of form s))

-- what the lines of a text hold; 2 before the lines
unfoldable pub seen_in : Form → List Text → List ℕ → call.Result Seen
seen_in form book text =
    cond (leb (length text) (most_bytes form)) (check_from book 1 nothing_seen (lines_of form text)) (call.refused TooLong 0)

-- how many own phrases and instructions, or the refusal
abbrev pub checked_answer : call.Result Seen → Result Counts Refusal
checked_answer (call.made s) = Ok (record { own = length s.own; instructions = s.instructions })
checked_answer (call.refused cause place) = Err (record { cause = cause; place = place })
