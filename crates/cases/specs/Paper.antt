-- Document 01, "Walked by hand": cases (a) to (i), and what plateshow prints.
use Rattle.std.specs.Prelude.{ℕ, ◌+◌, List, [], ◌∷◌, ◌++◌, length, pos, negsuc}
use Rattle.causes.specs.Answers.{Result, made, refused}
use Rattle.text.specs.Quoted.{bytes}
use Rattle.plate.specs.Program.{Program}
use Rattle.plate.specs.Writing.{program_bits, constant_bits}
use Rattle.plate.specs.Plate.{plate_program}
use Rattle.listing.specs.Listing.{listing_program}
use Rattle.listing.specs.Calls.{read_plate_call, write_plate_call}
use Rattle.translating.specs.Call.{translate_call, translation}
use Rattle.show.specs.Show.{shown}
use Rattle.cases.specs.Row.{Row, ◌counts◌, ◌prints◌, hex, times, print_line, refuses, writes, meets, bytes_made}

-- (a)
abbrev pub guide_a : List ℕ
guide_a = bytes "printex,OK\n"

-- (b)
abbrev pub guide_b : List ℕ
guide_b = bytes "input,0,Volts\nif,0,lt,100\nprintex,Fuse\nelse\nfi\nprint,OK\n"

abbrev pub listing_b : List ℕ
listing_b = bytes "input,0,Volts\nif,0,lt,100,2\nprintex,Fuse\ngoto,0\nprint,OK\n"

abbrev pub plate_b : List ℕ
plate_b = hex "00A0056DFB3A730740800640132375E7941C00227CB060"

-- (f)
abbrev pub guide_f : List ℕ
guide_f = bytes "if,0,eq,0\nprint,a\nelse\nfi\nprint,b\n"

-- the bits that a listing takes, with no book
abbrev pub bits_of_program : Result Program → ℕ
bits_of_program (made p) = length (program_bits [] p)
bits_of_program (refused cause place) = 0

abbrev pub bit_count : List ℕ → ℕ
bit_count listing = bits_of_program (listing_program [] listing)

-- the instructions on the plate of a guide, with no book
abbrev pub instructions_of_program : Result Program → ℕ
instructions_of_program (made p) = length p.instructions
instructions_of_program (refused cause place) = 0

abbrev pub instruction_count : List ℕ → ℕ
instruction_count guide = instructions_of_program (plate_program [] (bytes_made (translation [] guide)))

abbrev pub paper : List Row
paper =
    -- (a)
    ((shown guide_a prints bytes "printex,OK\nplate,002C9F2C18\n") ∷ [])
    ++ writes (translate_call guide_a []) (hex "002C9F2C18")
    ++ writes (read_plate_call (hex "002C9F2C18") []) guide_a
    -- (b): the listing's second line is `if,0,lt,100,2`, its fourth `goto,0`
    ++ ((shown guide_b prints listing_b ++ bytes "plate,00A0056DFB3A730740800640132375E7941C00227CB060\n") ∷ [])
    ++ writes (translate_call guide_b []) plate_b
    ++ writes (read_plate_call plate_b []) listing_b
    ++ writes (write_plate_call listing_b []) plate_b
    ++ ((bit_count listing_b counts 179) ∷ (length plate_b counts 23) ∷ [])
    -- (c), (d), (e)
    ++ meets guide_b (pos 90 ∷ []) (bytes "Q,Volts\nA,90\nV,Fuse\n") 0 1 3
    ++ meets guide_b (pos 100 ∷ []) (bytes "Q,Volts\nA,100\nS,OK\n") 1 1 3
    ++ meets guide_b [] (bytes "Q,Volts\n") 2 0 1
    -- (f)
    ++ writes
    (read_plate_call (bytes_made (translation [] guide_f)) [])
    (bytes "if,0,eq,0,2\nprint,a\ngoto,0\nprint,b\n")
    ++ ((instruction_count guide_f counts 4) ∷ [])
    ++ meets guide_f [] (bytes "S,a\nS,b\n") 1 0 4
    -- (g)
    ++ ((shown [] prints bytes "plate,0000\n") ∷ [])
    ++ writes (translate_call [] []) (hex "0000")
    ++ writes (read_plate_call (hex "0000") []) []
    ++ meets [] [] [] 1 0 0
    -- (h): the two-bit code, and 16 bits for 32767 and -32768, 32 for 32768 and -32769
    ++ ((length (constant_bits (pos 32767)) counts 2 + 16)
    ∷ (length (constant_bits (negsuc 32767)) counts 2 + 16)
    ∷ (length (constant_bits (pos 32768)) counts 2 + 32)
    ∷ (length (constant_bits (negsuc 32768)) counts 2 + 32)
    ∷ [])
    -- (i)
    ++ writes (write_plate_call (bytes "goto,0\n") []) (hex "003000")
    ++ refuses (write_plate_call (bytes "goto,1\n") []) 8 1
    -- plateshow on a refused guide: an unknown kind at line 2, the 513th instruction, a plate of 2,954 bytes
    ++ ((shown (bytes "print,a\nnone\n") prints bytes "refused,4,2\n") ∷ [])
    ++ ((shown (times 513 (bytes "print,a\n")) prints bytes "refused,9,513\n") ∷ [])
    ++ ((shown (times 51 (print_line 64) ++ print_line 21) prints bytes "refused,10,0\n") ∷ [])
