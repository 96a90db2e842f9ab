-- The instructions of an accepted guide or listing, line by line: an if and an `else` line of a guide take their skip from a table, at the
-- number of their instruction, and a line of a listing says its own.
use Rattle.std.specs.Prelude.{ℕ, List, [], ◌∷◌, ◌++◌, length, drop, get_or}
use Rattle.text.specs.Text.{Text}
use Rattle.phrases.specs.Lookup.{own_texts}
use Rattle.lines.specs.declared.Form.{Form}
use Rattle.lines.specs.declared.Head.{Head}
use Rattle.lines.specs.declared.Head.TheVariants as head
use Rattle.lines.specs.Line.{Line, phrase, says, if_line, else_line, fi_line, goto_line, if_skip_line, faulty}
use Rattle.lines.specs.Check.{lines_of}
use Rattle.plate.specs.Program.{Instruction, statement, goto, if_skip, Program}
use Rattle.writer.specs.Listing.{line_instruction}

-- the instruction of a line, if it has one; k is the skip of a guide's if or `else`
abbrev pub line_code : ℕ → Line → List Instruction
line_code k (says x) = statement x ∷ []
line_code k (if_line test) = if_skip test k ∷ []
line_code k else_line = goto k ∷ []
line_code k (goto_line j) = goto j ∷ []
line_code k (if_skip_line test j) = if_skip test j ∷ []
line_code k fi_line = []
line_code k (phrase t) = []
line_code k (faulty c) = []

-- the instructions of lines, one line behind the other; ks are the skips, from that of the first instruction on
unfoldable pub lines_code : List ℕ → List Line → List Instruction
lines_code ks [] = []
lines_code ks (l ∷ ls) = line_code (get_or ks 0 0) l ++ lines_code (drop (length (line_code (get_or ks 0 0) l)) ks) ls

-- the program of a text whose first lines are so many own phrases
abbrev pub program_in : Form → List ℕ → List ℕ → ℕ → Program
program_in form ks text own = record { own = own_texts own text; instructions = lines_code ks (lines_of form text) }

-- ---- the same of one line, by its head

-- its instruction, by its head and its fields
abbrev pub head_code : ℕ → Head → List Text → List Instruction
head_code k head.Phrase fs = line_instruction head.Phrase fs
head_code k (head.Input r) fs = line_instruction (head.Input r) fs
head_code k (head.Inputs r n) fs = line_instruction (head.Inputs r n) fs
head_code k head.Print fs = line_instruction head.Print fs
head_code k head.Printex fs = line_instruction head.Printex fs
head_code k (head.If test) fs = if_skip test k ∷ []
head_code k head.Else fs = goto k ∷ []
head_code k head.Fi fs = line_instruction head.Fi fs
head_code k (head.Goto j) fs = line_instruction (head.Goto j) fs
head_code k (head.IfSkip test j) fs = line_instruction (head.IfSkip test j) fs

-- how many instructions it is
abbrev pub count_by : Head → ℕ
count_by head.Phrase = 0
count_by (head.Input r) = 1
count_by (head.Inputs r n) = 1
count_by head.Print = 1
count_by head.Printex = 1
count_by (head.If test) = 1
count_by head.Else = 1
count_by head.Fi = 0
count_by (head.Goto j) = 1
count_by (head.IfSkip test j) = 1

-- its skip; 0 where it has none
abbrev pub skip_by : ℕ → Head → ℕ
skip_by k head.Phrase = 0
skip_by k (head.Input r) = 0
skip_by k (head.Inputs r n) = 0
skip_by k head.Print = 0
skip_by k head.Printex = 0
skip_by k (head.If test) = k
skip_by k head.Else = k
skip_by k head.Fi = 0
skip_by k (head.Goto j) = j
skip_by k (head.IfSkip test j) = j
