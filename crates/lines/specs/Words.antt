-- The words of a line: the kind that a word names, the line of each kind and where its fields begin.
use Rattle.std.specs.Prelude.{ℕ, List, cond, Option, None, Some}
use Rattle.causes.specs.declared.Cause.TheVariants as cause
use Rattle.text.specs.Quoted.{bytes}
use Rattle.text.specs.Parts.{same}
use Rattle.transcript.specs.Statement.{print, printex}
use Rattle.lines.specs.declared.Form.{Form}
use Rattle.lines.specs.declared.Kind.{Kind}
use Rattle.lines.specs.declared.Kind.TheVariants.{
  Phrase,
  Input,
  Inputs,
  Print,
  Printex,
  If,
  Else,
  Fi,
  Goto,
}
use Rattle.text.specs.Text.{is_text, is_own_text}
use Rattle.lines.specs.Line.{Line, says, else_line, fi_line, faulty}
use Rattle.lines.specs.Line.{text_line, phrase_line, input_line, inputs_line, if_fields, bare_line, goto_fields}

-- the kind that a word names
unfoldable pub kind_of : List ℕ → Option Kind
kind_of w =
    cond (same w (bytes "phrase")) (Some Phrase)
    (cond (same w (bytes "input")) (Some Input)
    (cond (same w (bytes "inputs")) (Some Inputs)
    (cond (same w (bytes "print")) (Some Print)
    (cond (same w (bytes "printex")) (Some Printex)
    (cond (same w (bytes "if")) (Some If)
    (cond (same w (bytes "else")) (Some Else)
    (cond (same w (bytes "fi")) (Some Fi)
    (cond (same w (bytes "goto")) (Some Goto) None))))))))

-- where the fields behind a kind's word begin: past the word and a comma
abbrev pub fields_at : Kind → ℕ
fields_at Phrase = 7
fields_at Input = 6
fields_at Inputs = 7
fields_at Print = 6
fields_at Printex = 8
fields_at If = 3
fields_at Else = 5
fields_at Fi = 3
fields_at Goto = 5

-- the line of a kind and the fields behind its word
abbrev pub line_of_kind : Form → Kind → List (List ℕ) → Line
line_of_kind form Phrase fs = text_line is_own_text (phrase_line form) fs
line_of_kind form Input fs = input_line fs
line_of_kind form Inputs fs = inputs_line fs
line_of_kind form Print fs = text_line is_text (λ t. says (print t)) fs
line_of_kind form Printex fs = text_line is_text (λ t. says (printex t)) fs
line_of_kind form If fs = if_fields form fs
line_of_kind form Else fs = bare_line form else_line fs
line_of_kind form Fi fs = bare_line form fi_line fs
line_of_kind form Goto fs = goto_fields form fs

-- the line of the kind that a word names; "unknown kind": 4
abbrev pub line_named : Form → Option Kind → List (List ℕ) → Line
line_named form None fs = faulty cause.Kind
line_named form (Some kind) fs = line_of_kind form kind fs
