-- What a head stands for: the instruction whose texts are read from its bit on.
use Rattle.std.specs.Prelude.{ℕ, ◌+◌, ◌≤◌, ◌<◌, ◌≡◌, List}
use Rattle.causes.specs.Limits.{most_plate_bits, skips}
use Rattle.bits.specs.Ahead.{ahead_in}
use Rattle.transcript.specs.Statement.{input, inputs, print, printex}
use Rattle.phrases.specs.Phrases.{Phrases}
use Rattle.plate.specs.Program.{Instruction, statement, goto}
use Rattle.plate.specs.Reading.{Read, got, stopped, return, ◌>>=◌}
use Rattle.plate.specs.Plate.{text, options, fields_by}
use Rattle.fields.specs.Places.{place_at}
use Rattle.instructions.specs.declared.Head.{Head}
use Rattle.instructions.specs.declared.Head.TheVariants.{Input, Inputs, Print, Printex, Goto, IfSkip}

-- the instruction that a head begins: its texts are read from a bit on, and the fields of an if behind its code. The skip was judged before,
-- so every skip of 9 bits is let through
unfoldable pub headed : List ℕ → Phrases → Head → Read Instruction
headed plate c (Input r bit) = (do t ← text c; return (statement (input r t))) (place_at plate bit)
headed plate c (Inputs r bit) = (do t ← text c; os ← options c; return (statement (inputs r t os))) (place_at plate bit)
headed plate c (Print bit) = (do t ← text c; return (statement (print t))) (place_at plate bit)
headed plate c (Printex bit) = (do t ← text c; return (statement (printex t))) (place_at plate bit)
headed plate c (Goto k next) = got (goto k) (place_at plate next)
headed plate c (IfSkip bit ahead) = fields_by c 511 5 (place_at plate (bit + 3))

-- a register is one of the 32, a skip has 9 bits, and an if begins on 2,953 bytes, where the 25 bits were read ahead
abbrev pub HeadFits : List ℕ → Head → Type 0
HeadFits plate (Input r bit) = r < 32
HeadFits plate (Inputs r bit) = r < 32
HeadFits plate (Print bit) = Unit
HeadFits plate (Printex bit) = Unit
HeadFits plate (Goto k next) = k < skips
HeadFits plate (IfSkip bit ahead) = (bit ≤ most_plate_bits) × (ahead ≡ ahead_in plate bit)

-- the instruction that was read; nothing asks it of a refusal
abbrev pub instruction_of : Read Instruction → Instruction
instruction_of (got i q) = i
instruction_of (stopped cause bit) = goto 0
