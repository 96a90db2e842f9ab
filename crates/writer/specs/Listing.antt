-- The bits of one line of a listing.
use Rattle.std.specs.Prelude.{ℕ, ◌≡◌, List, [], ◌∷◌, Bool, drop, get_or, Result, Ok, Err}
use Rattle.causes.specs.declared.Cause.{Cause}
use Rattle.text.specs.Text.{Text}
use Rattle.phrases.specs.Phrases.{Phrases}
use Rattle.transcript.specs.Statement.{input, inputs, print, printex}
use Rattle.lines.specs.declared.Form.{Form}
use Rattle.lines.specs.declared.Head.{Head}
use Rattle.lines.specs.declared.Head.TheVariants as head
use Rattle.lines.specs.Line.{line_of}
use Rattle.lines.specs.Answers.{head_of}
use Rattle.plate.specs.Program.{Instruction, statement, goto, if_skip}
use Rattle.plate.specs.Writing.{instructions_bits}

-- the instruction of a listing line, if it is one, by the line's head and its fields: for an accepted line, whose head is `head_of` of it,
-- this is crate listing's `instruction_of`
abbrev pub line_instruction : Head → List Text → List Instruction
line_instruction head.Phrase fs = []
line_instruction (head.Input r) fs = statement (input r (get_or fs 2 [])) ∷ []
line_instruction (head.Inputs r n) fs = statement (inputs r (get_or fs 2 []) (drop 3 fs)) ∷ []
line_instruction head.Print fs = statement (print (get_or fs 1 [])) ∷ []
line_instruction head.Printex fs = statement (printex (get_or fs 1 [])) ∷ []
line_instruction (head.Goto k) fs = goto k ∷ []
line_instruction (head.IfSkip t k) fs = if_skip t k ∷ []
-- no lines of an accepted listing
line_instruction (head.If t) fs = []
line_instruction head.Else fs = []
line_instruction head.Fi fs = []

-- the head of the line s in a guide or in a listing, or the line's cause
abbrev pub HeadOf : Result Head Cause → List ℕ → Type 0
HeadOf r s = (form : Form) × (r ≡ head_of (line_of form s))

-- the bits of the line; a line that has a cause has none
unfoldable pub line_bits : Phrases → Result Head Cause → List Text → List Bool
line_bits c (Ok h) fs = instructions_bits c (line_instruction h fs)
line_bits c (Err cause) fs = []
