-- What the lines of a run are written from: a text of the plate, or an inputs instruction.
use Rattle.std.specs.Prelude.{ℕ, ◌≡◌, List, [], length}
use Rattle.text.specs.Text.{Text}
use Rattle.phrases.specs.Phrases.{Phrases}
use Rattle.transcript.specs.Statement.{input, inputs, print, printex}
use Rattle.transcript.specs.State.{offered, line_bytes}
use Rattle.plate.specs.Program.{Instruction, statement, goto, if_skip}
use Rattle.plate.specs.Plate.{text}
use Rattle.fields.specs.Places.{place_at, values_of}
use Rattle.instructions.specs.declared.Head.TheVariants.{Inputs}
use Rattle.instructions.specs.Heads.{headed, instruction_of}

-- the text at a bit of a plate
abbrev pub text_at : List ℕ → Phrases → ℕ → Text
text_at plate c bit = values_of (text c (place_at plate bit))

-- the inputs instruction with the register r, whose texts begin at a bit of a plate
abbrev pub inputs_at : List ℕ → Phrases → ℕ → ℕ → Instruction
inputs_at plate c r bit = instruction_of (headed plate c (Inputs r bit))

-- its question; nothing asks it of another instruction
abbrev pub question_of : Instruction → Text
question_of (statement (inputs r t options)) = t
question_of (statement (input r t)) = []
question_of (statement (print t)) = []
question_of (statement (printex t)) = []
question_of (goto skip) = []
question_of (if_skip test skip) = []

-- its options, likewise
abbrev pub options_of : Instruction → List Text
options_of (statement (inputs r t options)) = options
options_of (statement (input r t)) = []
options_of (statement (print t)) = []
options_of (statement (printex t)) = []
options_of (goto skip) = []
options_of (if_skip test skip) = []

-- its C line: "`C,TEXT,OPTION,..` for inputs"
abbrev pub choices_of : Instruction → List ℕ
choices_of i = line_bytes (offered (question_of i) (options_of i))

-- it is inputs with the register r and n options
abbrev pub Offers : ℕ → ℕ → Instruction → Type 0
Offers r n i = (i ≡ statement (inputs r (question_of i) (options_of i))) × (n ≡ length (options_of i))
