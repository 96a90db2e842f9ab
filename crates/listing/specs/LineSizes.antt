-- How many bytes the lines of instructions take at most in a listing: their texts by their sizes, R as 2 digits, SKIP as 3, C as 11 characters.
use Rattle.std.specs.Prelude.{ℕ, ◌+◌, List, [], ◌∷◌, length}
use Rattle.transcript.specs.Statement.{input, inputs, print, printex}
use Rattle.transcript.specs.Offered.{options_bytes}
use Rattle.plate.specs.Program.{Instruction, statement, goto, if_skip}

-- the line of an instruction
abbrev pub line_room : Instruction → ℕ
line_room (statement (input r t)) = 10 + length t
line_room (statement (inputs r t os)) = 11 + length t + length (options_bytes os)
line_room (statement (print t)) = 7 + length t
line_room (statement (printex t)) = 9 + length t
line_room (goto k) = 9
line_room (if_skip t k) = 25

-- the lines of instructions, one behind the other
abbrev pub lines_room : List Instruction → ℕ
lines_room [] = 0
lines_room (i ∷ is) = line_room i + lines_room is
