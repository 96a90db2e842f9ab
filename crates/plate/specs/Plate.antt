-- Documents 01, "Plate bits" and "Causes", and 02, f): how a plate is read, "field by field 12, 13, 14, 8; then 15".
use Rattle.std.specs.Prelude.{ℕ, zero, suc, ◌+◌, ◌-◌, ◌^◌, List, [], ◌∷◌, ◌++◌, Bool, true, false, cond, not, ◌&&◌, ◌||◌, length, get_or, leb, ltb, eqb, ℤ, pos, negsuc}
use Rattle.causes.specs.Answers.{Result, made, refused}
use Rattle.causes.specs.Limits.{most_instructions, most_plate_bytes}
use Rattle.causes.specs.declared.Cause.TheVariants.{PlateTooLong, PlateEnds, Unused, Spelling, Skip, Filling}
use Rattle.bits.specs.Bits.{bytes_bits}
use Rattle.text.specs.Utf8.{well_formed}
use Rattle.text.specs.Text.{Text, text_byte, text_size, is_plain}
use Rattle.phrases.specs.Phrases.{Phrases, is_new, width}
use Rattle.transcript.specs.Statement.{input, inputs, print, printex}
use Rattle.transcript.specs.declared.Test.{Test}
use Rattle.transcript.specs.declared.Op.{Op}
use Rattle.transcript.specs.declared.Op.TheVariants.{Eq, Ne, Lt, Le, Gt, Ge}
use Rattle.plate.specs.Program.{Instruction, statement, goto, if_skip, Program}
use Rattle.plate.specs.Writing.{ETX, is_short}
use Rattle.plate.specs.Reading.{Read, got, stopped, Reader, number, judge, judged, return, ◌>>=◌, many}

-- ---- texts

-- a character of w bits, or ETX; one that no text holds, "no byte below 32, no 127 and no comma": 14
abbrev pub character : ℕ → Reader ℕ
character w = judged (number w) (λ c. eqb c ETX || text_byte c) Spelling

-- the text ends at ETX, or goes on behind the character c
abbrev pub up_to_etx : Bool → ℕ → Reader Text → Reader Text
up_to_etx true c rest = return []
up_to_etx false c rest = do
  t ← rest
  return (c ∷ t)

-- characters up to ETX, at most f of them: with fewer bits than characters the plate ends
unfoldable pub characters : ℕ → ℕ → Reader Text
characters w zero = λ p. stopped PlateEnds p.at
characters w (suc f) = do
  c ← character w
  up_to_etx (eqb c ETX) c (characters w f)

-- a whole text in characters of w bits, which has to keep a rule; "text of 0 or over 64, ..": 14, "judged at its ETX, and its bit is
-- that of its first character position"
unfoldable pub spelled : ℕ → (Text → Bool) → Reader Text
spelled w rule = judged (λ p. characters w (length p.left) p) (λ t. text_size t && rule t) Spelling

-- the rule of code 01: "a phrase spelled out": 14; document 02, f): "Ill-formed text is .. 14 .., and 01 on an ASCII text is 14; .. on
-- a plate both are faults of a whole text"
abbrev pub is_accented : List Text → List Text → Text → Bool
is_accented book own t = is_new book own t && well_formed t && not (is_plain t)

-- ---- phrases

-- the own phrases, each judged against the book and the earlier ones; "Own phrases keep the old characters"
unfoldable pub own_from : List Text → List Text → ℕ → Reader (List Text)
own_from book earlier zero = return []
own_from book earlier (suc n) = do
  t ← spelled 7 (is_new book earlier)
  ts ← own_from book (earlier ++ (t ∷ [])) n
  return (t ∷ ts)

-- the number less one follows a 1
abbrev pub own_count_by : ℕ → Reader ℕ
own_count_by zero = return 0
own_count_by (suc n) = do
  k ← number 5
  return (suc k)

-- "One bit: 1 if there are own phrases; then 5 bits for their number less one"
unfoldable pub own_count : Reader ℕ
own_count = do
  b ← number 1
  own_count_by b

-- a phrase by its place; "phrase that isn't there": 13
unfoldable pub phrase_at : List Text → Reader Text
phrase_at ts = do
  i ← judged (number (width (length ts))) (λ i. ltb i (length ts)) Unused
  return (get_or ts i [])

-- book (0) or own (1)
abbrev pub phrase_by : List Text → List Text → ℕ → Reader Text
phrase_by book own zero = phrase_at book
phrase_by book own (suc n) = phrase_at own

-- "one bit says book (0) or own (1), left out where only one of the two has phrases"
unfoldable pub phrase : List Text → List Text → Reader Text
phrase [] own = phrase_at own
phrase (t ∷ ts) [] = phrase_at (t ∷ ts)
phrase (t ∷ ts) (u ∷ us) = do
  b ← number 1
  phrase_by (t ∷ ts) (u ∷ us) b

-- 00, 01, or 10 where there are phrases; "A 10 where there are no phrases at all is 13 at that 10"
abbrev pub is_text_code : Phrases → ℕ → Bool
is_text_code c zero = true
is_text_code c (suc zero) = true
is_text_code c (suc (suc zero)) = leb 1 (length c.book + length c.own)
is_text_code c (suc (suc (suc n))) = false

-- what a text's code calls for: 00 characters of 7 bits, 01 "eight bits to a byte, ended by 00000011", 10 a phrase
abbrev pub text_by : Phrases → ℕ → Reader Text
text_by c zero = spelled 7 (is_new c.book c.own)
text_by c (suc zero) = spelled 8 (is_accented c.book c.own)
text_by c (suc (suc n)) = phrase c.book c.own

-- "Text: 00, characters, ETX; or 10 and a phrase", or 01
unfoldable pub text : Phrases → Reader Text
text c = do
  code ← judged (number 2) (is_text_code c) Unused
  text_by c code

-- ---- constants

-- the number whose two's complement of w bits is v
abbrev pub signed : ℕ → ℕ → ℤ
signed w v = cond (ltb v (2 ^ (w - 1))) (pos v) (negsuc (2 ^ w - 1 - v))

-- a constant of 16 bits
abbrev pub short : Reader ℤ
short = do
  v ← number 16
  return (signed 16 v)

-- a constant of 32 bits
abbrev pub long : Reader ℤ
long = do
  v ← number 32
  return (signed 32 v)

-- 00 and 16 bits, 01 and 32 bits; "32 bits for a 16-bit constant (at the number)": 14
abbrev pub constant_by : ℕ → Reader ℤ
constant_by zero = short
constant_by (suc n) = judged long (λ c. not (is_short c)) Spelling

-- codes 10 and 11 are unused: 13
unfoldable pub constant : Reader ℤ
constant = do
  code ← judged (number 2) (λ k. ltb k 2) Unused
  constant_by code

-- ---- instructions

-- "eq 0 to ge 5 in the order above"
abbrev pub op_of : ℕ → Op
op_of zero = Eq
op_of (suc zero) = Ne
op_of (suc (suc zero)) = Lt
op_of (suc (suc (suc zero))) = Le
op_of (suc (suc (suc (suc zero)))) = Gt
op_of (suc (suc (suc (suc (suc n))))) = Ge

-- R, OP and C; "an OP over 5": 13
unfoldable pub test : Reader Test
test = do
  r ← number 5
  o ← judged (number 3) (λ o. leb o 5) Unused
  c ← constant
  return (record { register = r; op = op_of o; constant = c })

-- "skip past n": 8; with so many instructions behind this one, i + 1 + skip is at most n where the skip is at most their number
unfoldable pub skip : ℕ → Reader ℕ
skip behind = judged (number 9) (λ k. leb k behind) Skip

-- options; "options less two 3", "an options field of 7": 13
unfoldable pub options : Phrases → Reader (List Text)
options c = do
  k ← judged (number 3) (λ k. leb k 6) Unused
  many (λ j. text c) (suc (suc k))

-- the fields behind an instruction's code
abbrev pub fields_by : Phrases → ℕ → ℕ → Reader Instruction
fields_by c behind zero = do
  r ← number 5
  t ← text c
  return (statement (input r t))
fields_by c behind (suc zero) = do
  r ← number 5
  t ← text c
  os ← options c
  return (statement (inputs r t os))
fields_by c behind (suc (suc zero)) = do
  t ← text c
  return (statement (print t))
fields_by c behind (suc (suc (suc zero))) = do
  t ← text c
  return (statement (printex t))
fields_by c behind (suc (suc (suc (suc zero)))) = do
  k ← skip behind
  return (goto k)
fields_by c behind (suc (suc (suc (suc (suc n))))) = do
  t ← test
  k ← skip behind
  return (if_skip t k)

-- "unused code": 13
unfoldable pub instruction : Phrases → ℕ → Reader Instruction
instruction c behind = do
  code ← judged (number 3) (λ k. leb k 5) Unused
  fields_by c behind code

-- ---- the plate

-- "n over 512": 13
unfoldable pub program : List Text → Reader Program
program book = do
  k ← own_count
  own ← own_from book [] k
  n ← judged (number 10) (λ n. leb n most_instructions) Unused
  is ← many (instruction (record { book = book; own = own })) n
  return (record { own = own; instructions = is })

-- no one among the bits
unfoldable pub zeros : List Bool → Bool
zeros [] = true
zeros (b ∷ bs) = not b && zeros bs

-- "a one among the filling bits, or a whole spare byte": 15, which "names the first filling bit"
unfoldable pub filling : Program → Reader Program
filling p q = judge (ltb (length q.left) 8 && zeros q.left) Filling q.at (got p q)

-- a program, and then the filling
unfoldable pub whole_plate : List Text → Reader Program
whole_plate book = do
  p ← program book
  filling p

-- the program that was read, or the refusal
abbrev pub result_of : Read Program → Result Program
result_of (got p q) = made p
result_of (stopped cause bit) = refused cause bit

-- "plate over 2,953 bytes": 10, before any field
unfoldable pub plate_program : List Text → List ℕ → Result Program
plate_program book plate =
    cond (leb (length plate) most_plate_bytes)
    (result_of (whole_plate book (record { left = bytes_bits plate; at = 0 })))
    (refused PlateTooLong 0)
