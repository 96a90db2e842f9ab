-- Document 02, c): "the steps are now at most the instructions plus two for each inputs"
use Rattle.std.specs.Prelude.{ℕ, suc, ◌+◌, ◌*◌, List, [], ◌∷◌, length}
use Rattle.transcript.specs.Statement.{input, inputs, print, printex}
use Rattle.plate.specs.Program.{Instruction, statement, goto, if_skip}

-- how many of the instructions are inputs
abbrev pub inputs_in : List Instruction → ℕ
inputs_in [] = 0
inputs_in (statement (input r t) ∷ is) = inputs_in is
inputs_in (statement (inputs r t options) ∷ is) = suc (inputs_in is)
inputs_in (statement (print t) ∷ is) = inputs_in is
inputs_in (statement (printex t) ∷ is) = inputs_in is
inputs_in (goto skip ∷ is) = inputs_in is
inputs_in (if_skip test skip ∷ is) = inputs_in is

-- the instructions plus two for each inputs
abbrev pub most_steps_of : List Instruction → ℕ
most_steps_of is = length is + 2 * inputs_in is
