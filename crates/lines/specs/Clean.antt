-- A line that by itself has none of the causes 3, 4, 5 and, in a guide, 6; and a text of such lines.
use Rattle.std.specs.Prelude.{ℕ, ◌≡◌, List, Bool, true, false}
use Rattle.text.specs.Parts.{all}
use Rattle.lines.specs.declared.Form.{Form}
use Rattle.lines.specs.Line.{Line, phrase, says, if_line, else_line, fi_line, goto_line, if_skip_line, faulty, line_of}
use Rattle.lines.specs.Check.{lines_of}

-- a line that by itself has no cause
abbrev pub is_clean : Line → Bool
is_clean (phrase t) = true
is_clean (says x) = true
is_clean (if_line t) = true
is_clean else_line = true
is_clean fi_line = true
is_clean (goto_line k) = true
is_clean (if_skip_line t k) = true
is_clean (faulty c) = false

-- bytes that in a guide or in a listing are such a line
abbrev pub CleanLine : List ℕ → Type 0
CleanLine s = (form : Form) × (is_clean (line_of form s) ≡ true)

-- every line of a text is such a line
abbrev pub Clean : Form → List ℕ → Type 0
Clean form text = all is_clean (lines_of form text) ≡ true
