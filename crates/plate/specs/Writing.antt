-- Documents 01, "Plate bits", and 02, f): the bits and bytes of a program, with a book.
use Rattle.std.specs.Prelude.{ℕ, ◌-◌, ◌^◌, List, [], ◌∷◌, ◌++◌, Bool, cond, ◌&&◌, length, leb, ℤ, pos, negsuc}
use Rattle.std.specs.Int.Signed.{le_z}
use Rattle.causes.specs.Answers.{Result, made, refused}
use Rattle.causes.specs.Limits.{most_plate_bytes}
use Rattle.causes.specs.declared.Cause.TheVariants.{PlateTooLong}
use Rattle.bits.specs.Bits.{bits_of, pack}
use Rattle.text.specs.Text.{Text, is_plain}
use Rattle.phrases.specs.Phrases.{Phrases, Where, in_book, in_own, nowhere, find, width}
use Rattle.transcript.specs.Statement.{Statement, input, inputs, print, printex}
use Rattle.transcript.specs.declared.Op.{Op}
use Rattle.transcript.specs.declared.Op.TheVariants.{Eq, Ne, Lt, Le, Gt, Ge}
use Rattle.plate.specs.Program.{Instruction, statement, goto, if_skip, Program}

-- "ETX, 0000011"
abbrev pub ETX : ℕ
ETX = 3

-- characters of w bits ended by ETX: "7-bit characters", "eight bits to a byte, ended by 00000011"
unfoldable pub spelled_bits : ℕ → Text → List Bool
spelled_bits w [] = bits_of w ETX
spelled_bits w (c ∷ t) = bits_of w c ++ spelled_bits w t

-- "A spelled text with a byte of 128 or more is written with source document 000's code 01 ..; others keep 00"
abbrev pub spelled_text : Text → List Bool
spelled_text t = cond (is_plain t) (bits_of 2 0 ++ spelled_bits 7 t) (bits_of 2 1 ++ spelled_bits 8 t)

-- "one bit says book (0) or own (1), left out where only one of the two has phrases"
abbrev pub own_bit : List Text → List Text → ℕ → List Bool
own_bit [] own b = []
own_bit (s ∷ ss) [] b = []
own_bit (s ∷ ss) (t ∷ ts) b = bits_of 1 b

-- "Text: 00, characters, ETX; or 10 and a phrase", or 01; "then its place from 0, in the fewest bits that number all the phrases there"
abbrev pub text_bits_at : Phrases → Text → Where → List Bool
text_bits_at c t nowhere = spelled_text t
text_bits_at c t (in_book i) = bits_of 2 2 ++ own_bit c.book c.own 0 ++ bits_of (width (length c.book)) i
text_bits_at c t (in_own i) = bits_of 2 2 ++ own_bit c.book c.own 1 ++ bits_of (width (length c.own)) i

-- "A text that is a phrase is always written as one"
unfoldable pub text_bits : Phrases → Text → List Bool
text_bits c t = text_bits_at c t (find c t)

-- texts, one behind the other
unfoldable pub texts_bits : Phrases → List Text → List Bool
texts_bits c [] = []
texts_bits c (t ∷ ts) = text_bits c t ++ texts_bits c ts

-- "OP 3 (eq 0 to ge 5 in the order above)"
abbrev pub op_code : Op → ℕ
op_code Eq = 0
op_code Ne = 1
op_code Lt = 2
op_code Le = 3
op_code Gt = 4
op_code Ge = 5

-- "two's complement" of w bits
abbrev pub complement : ℕ → ℤ → ℕ
complement w (pos n) = n
complement w (negsuc n) = 2 ^ w - 1 - n

-- "if it lies in −32768 to 32767"
abbrev pub is_short : ℤ → Bool
is_short c = le_z (negsuc 32767) c && le_z c (pos 32767)

-- "Constant: 00 and 16 bits if it lies in −32768 to 32767, else 01 and 32 bits, two's complement"
unfoldable pub constant_bits : ℤ → List Bool
constant_bits c = cond (is_short c) (bits_of 2 0 ++ bits_of 16 (complement 16 c)) (bits_of 2 1 ++ bits_of 32 (complement 32 c))

-- "each a 3-bit code and its fields"
abbrev pub statement_bits : Phrases → Statement → List Bool
statement_bits c (input r t) = bits_of 3 0 ++ bits_of 5 r ++ text_bits c t
statement_bits c (inputs r t options) =
    bits_of 3 1 ++ bits_of 5 r ++ text_bits c t ++ bits_of 3 (length options - 2) ++ texts_bits c options
statement_bits c (print t) = bits_of 3 2 ++ text_bits c t
statement_bits c (printex t) = bits_of 3 3 ++ text_bits c t

-- "goto: skip 9"; "if: register 5, OP 3, constant, skip 9"
abbrev pub instruction_bits : Phrases → Instruction → List Bool
instruction_bits c (statement x) = statement_bits c x
instruction_bits c (goto k) = bits_of 3 4 ++ bits_of 9 k
instruction_bits c (if_skip t k) =
    bits_of 3 5 ++ bits_of 5 t.register ++ bits_of 3 (op_code t.op) ++ constant_bits t.constant ++ bits_of 9 k

-- instructions, one behind the other
unfoldable pub instructions_bits : Phrases → List Instruction → List Bool
instructions_bits c [] = []
instructions_bits c (i ∷ is) = instruction_bits c i ++ instructions_bits c is

-- phrases, one behind the other
unfoldable pub phrases_bits : List Text → List Bool
phrases_bits [] = []
phrases_bits (t ∷ ts) = spelled_bits 7 t ++ phrases_bits ts

-- "One bit: 1 if there are own phrases; then 5 bits for their number less one, and each phrase as 7-bit characters ended by ETX"
unfoldable pub own_bits : List Text → List Bool
own_bits [] = bits_of 1 0
own_bits (t ∷ ts) = bits_of 1 1 ++ bits_of 5 (length ts) ++ phrases_bits (t ∷ ts)

-- "Then 10 bits: the instruction count n. Then n instructions"
unfoldable pub program_bits : List Text → Program → List Bool
program_bits book p =
    own_bits p.own ++ bits_of 10 (length p.instructions)
    ++ instructions_bits (record { book = book; own = p.own }) p.instructions

-- "Zero bits, fewer than 8, fill the last byte"
unfoldable pub plate_bytes : List Text → Program → List ℕ
plate_bytes book p = pack (program_bits book p)

-- "plate over 2,953 bytes": 10
abbrev pub plate_sized : List ℕ → Result (List ℕ)
plate_sized plate = cond (leb (length plate) most_plate_bytes) (made plate) (refused PlateTooLong 0)
