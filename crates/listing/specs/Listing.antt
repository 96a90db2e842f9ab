-- Document 01, "Listing": "The plate's instructions as lines".
use Rattle.std.specs.Prelude.{ℕ, suc, List, [], ◌∷◌, ◌++◌, map, true, false, length, leb}
use Rattle.std.proofs.Math.Option.{Option, none, some}
use Rattle.causes.specs.Answers.{Result, made, refused, ◌>>=◌}
use Rattle.causes.specs.declared.Cause.TheVariants.{Skip}
use Rattle.text.specs.Quoted.{bytes}
use Rattle.text.specs.Parts.{join, comma, LF}
use Rattle.text.specs.Text.{Text}
use Rattle.decimals.specs.Number.{decimal, decimalℕ}
use Rattle.transcript.specs.Statement.{Statement, input, inputs, print, printex}
use Rattle.transcript.specs.declared.Op.{Op}
use Rattle.transcript.specs.declared.Op.TheVariants.{Eq, Ne, Lt, Le, Gt, Ge}
use Rattle.lines.specs.declared.Form.TheVariants.{Listing}
use Rattle.lines.specs.Line.{Line, phrase, says, if_line, else_line, fi_line, goto_line, if_skip_line, faulty}
use Rattle.lines.specs.Check.{accept}
use Rattle.plate.specs.Program.{Instruction, statement, goto, if_skip, skip_of, Program}

-- ---- a program as text

-- "OP is eq, ne, lt, le, gt or ge"
abbrev pub operator_word : Op → List ℕ
operator_word Eq = bytes "eq"
operator_word Ne = bytes "ne"
operator_word Lt = bytes "lt"
operator_word Le = bytes "le"
operator_word Gt = bytes "gt"
operator_word Ge = bytes "ge"

-- "`input`, `inputs`, `print`, `printex` as above"
abbrev pub statement_fields : Statement → List (List ℕ)
statement_fields (input r t) = bytes "input" ∷ decimalℕ r ∷ t ∷ []
statement_fields (inputs r t options) = bytes "inputs" ∷ decimalℕ r ∷ t ∷ options
statement_fields (print t) = bytes "print" ∷ t ∷ []
statement_fields (printex t) = bytes "printex" ∷ t ∷ []

-- "`goto,SKIP` and `if,R,OP,C,SKIP`"
abbrev pub instruction_fields : Instruction → List (List ℕ)
instruction_fields (statement x) = statement_fields x
instruction_fields (goto k) = bytes "goto" ∷ decimalℕ k ∷ []
instruction_fields (if_skip t k) =
    bytes "if" ∷ decimalℕ t.register ∷ operator_word t.op ∷ decimal t.constant ∷ decimalℕ k ∷ []

-- "`phrase` .. as above"
abbrev pub phrase_fields : Text → List (List ℕ)
phrase_fields t = bytes "phrase" ∷ t ∷ []

-- the lines of a program as their fields: the own phrases go first
unfoldable pub program_fields : Program → List (List (List ℕ))
program_fields p = map phrase_fields p.own ++ map instruction_fields p.instructions

-- lines, each ended by LF
unfoldable pub lines_text : List (List (List ℕ)) → List ℕ
lines_text [] = []
lines_text (fs ∷ ls) = join comma fs ++ (LF ∷ lines_text ls)

-- the listing of a program
unfoldable pub listing_text : Program → List ℕ
listing_text p = lines_text (program_fields p)

-- ---- the program of a text

-- the instruction of a line, if it is one
abbrev pub instruction_of : Line → List Instruction
instruction_of (phrase t) = []
instruction_of (says x) = statement x ∷ []
instruction_of (goto_line k) = goto k ∷ []
instruction_of (if_skip_line t k) = if_skip t k ∷ []
-- no lines of an accepted listing
instruction_of (if_line t) = []
instruction_of else_line = []
instruction_of fi_line = []
instruction_of (faulty c) = []

-- the instructions of the lines, in their order
unfoldable pub instructions_of : List Line → List Instruction
instructions_of [] = []
instructions_of (l ∷ ls) = instruction_of l ++ instructions_of ls

-- the line of the first instruction, from line n on, whose skip goes past the instructions behind it: i + 1 + skip is over n
unfoldable pub first_past : ℕ → List Instruction → Option ℕ
first_past n [] = none
first_past n (i ∷ is) = elim (leb (skip_of i) (length is)) [ true ↦ first_past (suc n) is | false ↦ some n ]

-- "8 at the first such line"
abbrev pub within : Option ℕ → Program → Result Program
within none p = made p
within (some line) p = refused Skip line

-- the own phrases' lines come before the instructions' lines
abbrev pub skips_within : Program → Result Program
skips_within p = within (first_past (suc (length p.own)) p.instructions) p

-- causes 2 to 6, 9, and then 8
unfoldable pub listing_program : List Text → List ℕ → Result Program
listing_program book text = do
  a ← accept Listing book text
  skips_within (record { own = a.own; instructions = instructions_of a.lines })
