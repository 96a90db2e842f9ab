-- Document 01, "Plate bits" and "Causes", before request f) of document 02: the readers that read a text, or stand on one that does.
use Rattle.std.specs.Prelude.{ℕ, zero, suc, ◌+◌, List, [], ◌∷◌, ◌++◌, Bool, true, false, cond, ◌&&◌, ◌||◌, length, leb, eqb}
use Rattle.causes.specs.Answers.{Result, refused}
use Rattle.causes.specs.Limits.{most_instructions, most_plate_bytes}
use Rattle.causes.specs.declared.Cause.TheVariants.{PlateTooLong, PlateEnds, Unused, Spelling}
use Rattle.bits.specs.Bits.{bytes_bits}
use Rattle.text.specs.Text.{Text, text_size}
use Rattle.phrases.specs.Phrases.{Phrases, is_new}
use Rattle.transcript.specs.Statement.{input, inputs, print, printex}
use Rattle.plate.specs.Program.{Instruction, statement, goto, if_skip, Program}
use Rattle.plate.specs.Writing.{ETX}
use Rattle.plate.specs.Reading.{stopped, Reader, number, judged, return, many, ◌>>=◌}
use Rattle.plate.specs.Plate.{up_to_etx, phrase, own_count, test, skip, filling, result_of}
use Rattle.plate_before.specs.Text.{text_byte}

-- a character, or ETX; "character outside 32 to 126 or a comma": 14
abbrev pub character : Reader ℕ
character = judged (number 7) (λ c. eqb c ETX || text_byte c) Spelling

-- characters up to ETX, at most f of them
unfoldable pub characters : ℕ → Reader Text
characters zero = λ p. stopped PlateEnds p.at
characters (suc f) = do
  c ← character
  up_to_etx (eqb c ETX) c (characters f)

-- "text of 0 or over 64, a phrase spelled out or repeated": 14, "judged at its ETX"
unfoldable pub spelled : List Text → List Text → Reader Text
spelled book own = judged (λ p. characters (length p.left) p) (λ t. text_size t && is_new book own t) Spelling

-- the own phrases, each judged against the book and the earlier ones
unfoldable pub own_from : List Text → List Text → ℕ → Reader (List Text)
own_from book earlier zero = return []
own_from book earlier (suc n) = do
  t ← spelled book earlier
  ts ← own_from book (earlier ++ (t ∷ [])) n
  return (t ∷ ts)

-- 00, or 10 where there are phrases
abbrev pub is_text_code : Phrases → ℕ → Bool
is_text_code c zero = true
is_text_code c (suc zero) = false
is_text_code c (suc (suc zero)) = leb 1 (length c.book + length c.own)
is_text_code c (suc (suc (suc n))) = false

-- what a text's code calls for: 00 characters, 10 a phrase
abbrev pub text_by : Phrases → ℕ → Reader Text
text_by c zero = spelled c.book c.own
text_by c (suc n) = phrase c.book c.own

-- "Text: 00, characters, ETX; or 10 and a phrase"
unfoldable pub text : Phrases → Reader Text
text c = do
  code ← judged (number 2) (is_text_code c) Unused
  text_by c code

-- "options less two 3", "an options field of 7": 13
unfoldable pub options : Phrases → Reader (List Text)
options c = do
  k ← judged (number 3) (λ k. leb k 6) Unused
  many (λ j. text c) (suc (suc k))

-- the fields behind an instruction's code
abbrev pub fields_by : Phrases → ℕ → ℕ → Reader Instruction
fields_by c behind zero = do
  r ← number 5
  t ← text c
  return (statement (input r t))
fields_by c behind (suc zero) = do
  r ← number 5
  t ← text c
  os ← options c
  return (statement (inputs r t os))
fields_by c behind (suc (suc zero)) = do
  t ← text c
  return (statement (print t))
fields_by c behind (suc (suc (suc zero))) = do
  t ← text c
  return (statement (printex t))
fields_by c behind (suc (suc (suc (suc zero)))) = do
  k ← skip behind
  return (goto k)
fields_by c behind (suc (suc (suc (suc (suc n))))) = do
  t ← test
  k ← skip behind
  return (if_skip t k)

-- "unused code": 13
unfoldable pub instruction : Phrases → ℕ → Reader Instruction
instruction c behind = do
  code ← judged (number 3) (λ k. leb k 5) Unused
  fields_by c behind code

-- "n over 512": 13
unfoldable pub program : List Text → Reader Program
program book = do
  k ← own_count
  own ← own_from book [] k
  n ← judged (number 10) (λ n. leb n most_instructions) Unused
  is ← many (instruction (record { book = book; own = own })) n
  return (record { own = own; instructions = is })

-- a program, and then the filling
unfoldable pub whole_plate : List Text → Reader Program
whole_plate book = do
  p ← program book
  filling p

-- "plate over 2,953 bytes": 10, before any field
unfoldable pub plate_program : List Text → List ℕ → Result Program
plate_program book plate =
    cond (leb (length plate) most_plate_bytes)
    (result_of (whole_plate book (record { left = bytes_bits plate; at = 0 })))
    (refused PlateTooLong 0)
