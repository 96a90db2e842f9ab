-- Document 01, "Plate bits", before request f) of document 02: every text that is no phrase has the code 00 and characters of 7 bits.
use Rattle.std.specs.Prelude.{ℕ, ◌-◌, List, [], ◌∷◌, ◌++◌, Bool, length}
use Rattle.bits.specs.Bits.{bits_of, pack}
use Rattle.text.specs.Parts.{all}
use Rattle.text.specs.Text.{Text, is_plain}
use Rattle.phrases.specs.Phrases.{Phrases, Where, in_book, in_own, nowhere, find}
use Rattle.transcript.specs.Statement.{input, inputs, print, printex}
use Rattle.plate.specs.Program.{Instruction, statement, goto, if_skip, Program}
use Rattle.plate.specs.Writing.{spelled_bits, own_bits}
use Rattle.plate.specs.Writing as now

-- "Text: 00, characters, ETX; or 10 and a phrase"
abbrev pub text_bits_at : Phrases → Text → Where → List Bool
text_bits_at c t nowhere = bits_of 2 0 ++ spelled_bits 7 t
text_bits_at c t (in_book i) = now.text_bits_at c t (in_book i)
text_bits_at c t (in_own i) = now.text_bits_at c t (in_own i)

-- "A text that is a phrase is always written as one"
unfoldable pub text_bits : Phrases → Text → List Bool
text_bits c t = text_bits_at c t (find c t)

-- texts, one behind the other
unfoldable pub texts_bits : Phrases → List Text → List Bool
texts_bits c [] = []
texts_bits c (t ∷ ts) = text_bits c t ++ texts_bits c ts

-- "each a 3-bit code and its fields"
abbrev pub instruction_bits : Phrases → Instruction → List Bool
instruction_bits c (statement (input r t)) = bits_of 3 0 ++ bits_of 5 r ++ text_bits c t
instruction_bits c (statement (inputs r t options)) =
    bits_of 3 1 ++ bits_of 5 r ++ text_bits c t ++ bits_of 3 (length options - 2) ++ texts_bits c options
instruction_bits c (statement (print t)) = bits_of 3 2 ++ text_bits c t
instruction_bits c (statement (printex t)) = bits_of 3 3 ++ text_bits c t
instruction_bits c (goto k) = now.instruction_bits c (goto k)
instruction_bits c (if_skip t k) = now.instruction_bits c (if_skip t k)

-- instructions, one behind the other
unfoldable pub instructions_bits : Phrases → List Instruction → List Bool
instructions_bits c [] = []
instructions_bits c (i ∷ is) = instruction_bits c i ++ instructions_bits c is

-- the texts of an instruction
abbrev pub texts_of : Instruction → List Text
texts_of (statement (input r t)) = t ∷ []
texts_of (statement (inputs r t options)) = t ∷ options
texts_of (statement (print t)) = t ∷ []
texts_of (statement (printex t)) = t ∷ []
texts_of (goto k) = []
texts_of (if_skip t k) = []

-- an instruction whose texts are all ASCII
abbrev pub is_ascii : Instruction → Bool
is_ascii i = all is_plain (texts_of i)

-- "Then 10 bits: the instruction count n. Then n instructions"
unfoldable pub program_bits : List Text → Program → List Bool
program_bits book p =
    own_bits p.own ++ bits_of 10 (length p.instructions)
    ++ instructions_bits (record { book = book; own = p.own }) p.instructions

-- "Zero bits, fewer than 8, fill the last byte"
unfoldable pub plate_bytes : List Text → Program → List ℕ
plate_bytes book p = pack (program_bits book p)
