-- The lines of a program: their fields, and the rules that they meet.
use Prim.Native.Nat.{ℕ, ◌<◌, ◌≤◌}
use mathlib.Core.Path.{◌≡◌, refl, ap}
use mathlib.Core.List.{List, [], ◌∷◌, ◌++◌, map, map-append, map-map}
use native.Mathlib.Omega.{arith}
use lib.ListN.{length}
use mathlib.Core.Bool.{true}
use Rattle.text.specs.Parts.{all}
use Rattle.text.specs.Text.{Text, is_plain}
use Rattle.text.proofs.Tests.{all_first, all_rest}
use Rattle.phrases.proofs.Valid.{PhrasesOk}
use Rattle.lines.specs.declared.Form.TheVariants.{Listing}
use Rattle.lines.specs.Line.{Line, phrase, says, if_line, else_line, fi_line, goto_line, if_skip_line, faulty}
use Rattle.lines.proofs.Valid.{LineOk, LinesOk}
use Rattle.plate.specs.Program.{Instruction, statement, goto, if_skip, Program}
use Rattle.plate.proofs.Valid.{InstructionOk, InstructionsOk}
use Rattle.listing.specs.Listing.{instruction_fields, phrase_fields, program_fields, instructions_of}

abbrev pub instruction_line : Instruction → Line
instruction_line (statement x) = says x
instruction_line (goto k) = goto_line k
instruction_line (if_skip t k) = if_skip_line t k

-- the fields of a line; the last four are no lines of a listing
abbrev pub line_fields : Line → List (List ℕ)
line_fields (phrase t) = phrase_fields t
line_fields (says x) = instruction_fields (statement x)
line_fields (goto_line k) = instruction_fields (goto k)
line_fields (if_skip_line t k) = instruction_fields (if_skip t k)
line_fields (if_line t) = []
line_fields else_line = []
line_fields fi_line = []
line_fields (faulty c) = []

-- ---- the lines of phrases and instructions

abbrev pub program_lines : List Text → List Instruction → List Line
program_lines ts is = map phrase ts ++ map instruction_line is

instruction-fields : (i : Instruction) → line_fields (instruction_line i) ≡ instruction_fields i
instruction-fields (statement x) = refl
instruction-fields (goto k) = refl
instruction-fields (if_skip t k) = refl

-- the lines of a program have its fields
pub program-fields : (p : Program) → map line_fields (program_lines p.own p.instructions) ≡ program_fields p
unfolding program_fields
program-fields p = simp (map-append, map-map, instruction-fields)

-- the instructions of a program's lines are its own
pub program-instructions : (ts : List Text) (is : List Instruction) → instructions_of (program_lines ts is) ≡ is
unfolding instructions_of
program-instructions (t ∷ ts) is = program-instructions ts is
program-instructions [] [] = refl
program-instructions [] (statement x ∷ is) = ap (◌∷◌ (statement x)) (program-instructions [] is)
program-instructions [] (goto k ∷ is) = ap (◌∷◌ (goto k)) (program-instructions [] is)
program-instructions [] (if_skip t k ∷ is) = ap (◌∷◌ (if_skip t k)) (program-instructions [] is)

instruction-ok : (behind : ℕ) (i : Instruction) → behind < 512 → InstructionOk behind i → LineOk Listing (instruction_line i)
instruction-ok behind (statement x) h k = k
instruction-ok behind (goto j) h k = omega arith
instruction-ok behind (if_skip t j) h k = (k.0, omega arith)

-- the lines of a program that meets the rules meet theirs
pub program-ok : (book earlier ts : List Text) (is : List Instruction)
    → PhrasesOk book earlier ts → all is_plain ts ≡ true → InstructionsOk is → length is ≤ 512 → LinesOk Listing (program_lines ts is)
program-ok book earlier (t ∷ ts) is h m k r =
    (record { ok = (h.0, all_first is_plain t ts m) }, program-ok book (earlier ++ (t ∷ [])) ts is h.2 (all_rest is_plain t ts m) k r)
program-ok book earlier [] [] h m k r = tt
program-ok book earlier [] (i ∷ is) h m k r =
    (record { ok = instruction-ok (length is) i (omega arith) k.0 }, program-ok book earlier [] is h m k.1 (omega arith))
