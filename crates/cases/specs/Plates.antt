-- The refusals of read_plate and run, each at its exact bit, and beside a limit the plate that meets it. A plate is given by its bits,
-- field by field. Texts of code 01 are in Letters.antt.
use Rattle.std.specs.Prelude.{List, [], ◌∷◌, ◌++◌, replicate}
use Rattle.text.specs.Quoted.{bytes}
use Rattle.causes.specs.Answers.{wrote, ended, refusal}
use Rattle.bits.specs.Bits.{pack}
use Rattle.running.specs.Call.{scratch_numbers, run_call}
use Rattle.listing.specs.Calls.{read_plate_call}
use Rattle.cases.specs.Row.{Row, ◌gives◌, hex, bits_in, plate, times, print_line, writes, fits, plate_refused, untouched}

abbrev pub plates : List Row
plates =
    -- 1; 10, after 1 and before any field: 2,953 and 2,954 bytes
    plate_refused [] (bytes "a\nb") 1 2
    ++ plate_refused (replicate 2954 0) (bytes "a\nb") 1 2
    ++ plate_refused (replicate 2953 0) [] 15 11
    ++ plate_refused (replicate 2954 0) [] 10 0
    -- 12: the plate ends at the own-phrases bit, an own phrase's first and second character, n
    ++ plate_refused [] [] 12 0
    ++ plate_refused (plate "1 00000") [] 12 6
    ++ plate_refused (plate "1 00000 1100001 0") [] 12 13
    ++ plate_refused (hex "00") [] 12 1
    -- 12: at an instruction's code, with none, one and two of its bits there; at a register
    ++ plate_refused (plate "0 0000000010 010 10") (bytes "ok\n") 12 16
    ++ plate_refused (plate "0 0000000010 100 000000001") [] 12 23
    ++ plate_refused (plate "1 00000 1100001 0000011 0000000001") [] 12 30
    ++ plate_refused (plate "0 0000000001") [] 12 14
    -- 12: at a text's first character, and at its 66th: not 14, which is judged at the ETX; at an option's character, an options field, an
    -- option's two-bit code
    ++ plate_refused (plate "0 0000000001 000 00000") [] 12 21
    ++ plate_refused (pack (bits_in "0 0000000001 010 00" ++ times 65 (bits_in "1100001"))) [] 12 471
    ++ plate_refused (plate "0 0000000001 001 00000 00 1100001 0000011") [] 12 40
    ++ plate_refused (plate "0 0000000001 001 00000 00 1100001 1100001 1100001 1100001 1100001 0000011") [] 12 63
    ++ plate_refused (plate "0 0000000001 001 00000 00 1100001 1100001 1100001 1100001 1100001 1100001 1100001 0000011 000") [] 12 80
    -- 12: at a place, the book-or-own bit
    ++ plate_refused (plate "0 0000000001 010 10") (bytes "a\nb\nc\n") 12 16
    ++ plate_refused (plate "1 00000 1100001 1100001 1100001 1100001 0000011 0000000001 010 10") (bytes "p\n") 12 56
    -- 12: at an OP, a constant's two-bit code, a number of 16 and of 32 bits, an if's skip, a goto's skip
    ++ plate_refused (plate "0 0000000010 100 000000000 101 00000") [] 12 31
    ++ plate_refused (plate "0 0000000010 010 00 1100001 1100001 1100001 0000011 101 00000 000") [] 12 55
    ++ plate_refused (plate "0 0000000001 101 00000 000 00 00000000") [] 12 24
    ++ plate_refused (plate "0 0000000001 101 00000 000 01 00000000 00000000") [] 12 24
    ++ plate_refused (plate "0 0000000001 101 00000 000 00 0000000000000000") [] 12 40
    ++ plate_refused (plate "0 0000000001 100 00") [] 12 14
    -- 13: codes 110 and 111 of an instruction; n over 512, and 512; OP 6 and 7; an options field of 7
    ++ plate_refused (plate "0 0000000001 110") [] 13 11
    ++ plate_refused (plate "0 0000000001 111") [] 13 11
    ++ plate_refused (plate "0 1000000001") [] 13 1
    ++ plate_refused (plate "0 1111111111") [] 13 1
    ++ plate_refused (plate "0 1000000000") [] 12 14
    ++ plate_refused (plate "0 0000000001 101 00000 110") [] 13 19
    ++ plate_refused (plate "0 0000000001 101 00000 111") [] 13 19
    ++ plate_refused (plate "0 0000000001 001 00000 00 1100001 0000011 111") [] 13 35
    -- 13: code 11 of a text; 10 with no phrases at all; codes 10 and 11 of a constant; a phrase that is not there: in the book,
    -- among the own with a book and with none
    ++ plate_refused (plate "0 0000000001 010 11") [] 13 14
    ++ plate_refused (plate "0 0000000001 010 10") [] 13 14
    ++ plate_refused (plate "0 0000000001 101 00000 000 10") [] 13 22
    ++ plate_refused (plate "0 0000000001 101 00000 000 11") [] 13 22
    ++ plate_refused (plate "0 0000000001 010 10 11") (bytes "a\nb\nc\n") 13 16
    ++ plate_refused (plate "1 00010 1100001 0000011 1100010 0000011 1100011 0000011 0000000001 010 10 1 11") (bytes "p\n") 13 64
    ++ plate_refused (plate "1 00010 1100001 0000011 1100010 0000011 1100011 0000011 0000000001 010 10 11") [] 13 63
    -- 14: characters of 7 bits outside 32 to 126, and a comma, each at its own bit; not 126 and 32
    ++ plate_refused (plate "0 0000000001 010 00 0011111") [] 14 16
    ++ plate_refused (plate "0 0000000001 010 00 1111111") [] 14 16
    ++ plate_refused (plate "0 0000000001 010 00 0101100") [] 14 16
    ++ plate_refused (plate "0 0000000001 010 00 0000000") [] 14 16
    ++ plate_refused (plate "0 0000000001 010 00 1100001 0101100") [] 14 23
    ++ writes (read_plate_call (plate "0 0000000001 010 00 1111110 0100000 0000011") []) (bytes "print,~ \n")
    -- 14: a text of 0 or 65, not of 64; a bad character behind the 70th, at its own bit
    ++ plate_refused (plate "0 0000000001 010 00 0000011") [] 14 16
    ++ plate_refused (pack (bits_in "0 0000000001 010 00" ++ times 65 (bits_in "1100001") ++ bits_in "0000011")) [] 14 16
    ++ writes (read_plate_call (pack (bits_in "0 0000000001 010 00" ++ times 64 (bits_in "1100001") ++ bits_in "0000011")) []) (print_line 64)
    ++ plate_refused (pack (bits_in "0 0000000001 010 00" ++ times 70 (bits_in "1100001") ++ bits_in "0000000")) [] 14 506
    -- 14: a phrase spelled out, of the book and of the own; an own phrase repeated, and one that the book has; an own phrase of 0 and of
    -- 65, and one with a bad character
    ++ plate_refused (plate "0 0000000001 010 00 1100001 0000011") (bytes "a\n") 14 16
    ++ plate_refused (plate "1 00000 1100001 0000011 0000000001 010 00 1100001 0000011") [] 14 35
    ++ plate_refused (plate "1 00001 1100001 0000011 1100001 0000011") [] 14 20
    ++ plate_refused (plate "1 00000 1100001 0000011") (bytes "x\na\n") 14 6
    ++ plate_refused (plate "1 00000 0000011") [] 14 6
    ++ plate_refused (pack (bits_in "1 00000" ++ times 65 (bits_in "1100001") ++ bits_in "0000011 0000000000")) [] 14 6
    ++ plate_refused (plate "1 00000 1100001 0101100 0000011 0000000000") [] 14 13
    -- 14: 32 bits for a 16-bit constant, at the number: 32767, -32768; before a skip past n, and a skip that is not there; not 32768, -32769
    ++ plate_refused (plate "0 0000000001 101 00000 000 01 00000000000000000111111111111111 000000000") [] 14 24
    ++ plate_refused (plate "0 0000000001 101 00000 000 01 11111111111111111000000000000000 000000000") [] 14 24
    ++ plate_refused (plate "0 0000000001 101 00000 000 01 00000000000000000111111111111111 000000001") [] 14 24
    ++ plate_refused (plate "0 0000000001 101 00000 000 01 00000000000000000111111111111111") [] 14 24
    ++ writes (read_plate_call (plate "0 0000000001 101 00000 000 01 00000000000000001000000000000000 000000000") []) (bytes "if,0,eq,32768,0\n")
    ++ writes (read_plate_call (plate "0 0000000001 101 00000 000 01 11111111111111110111111111111111 000000000") []) (bytes "if,0,eq,-32769,0\n")
    -- 8: skip past n, at the skip, before later fields; a skip to n is accepted, and a last goto with skip 0
    ++ plate_refused (plate "0 0000000001 100 000000001") [] 8 14
    ++ plate_refused (plate "0 0000000010 100 000000010 111") [] 8 14
    ++ plate_refused (plate "0 0000000001 101 00000 000 00 0000000000000000 000000001") [] 8 40
    ++ writes (read_plate_call (plate "0 0000000010 100 000000001 011 00 1100001 0000011") []) (bytes "goto,1\nprintex,a\n")
    ++ writes (read_plate_call (plate "0 0000000001 100 000000000") []) (bytes "goto,0\n")
    -- 15: a one among the filling bits, a whole spare byte, always at the first filling bit
    ++ plate_refused (plate "0 0000000000 00001") [] 15 11
    ++ plate_refused (plate "0 0000000000 10000") [] 15 11
    ++ plate_refused (hex "000000") [] 15 11
    ++ plate_refused (hex "0000FF") [] 15 11
    ++ plate_refused (hex "002C9F2C1800") [] 15 37
    ++ plate_refused (hex "002C9F2C19") [] 15 37
    -- 14 before 15: a comma, an empty text, each with a one among the filling bits; an empty text with a spare byte
    ++ plate_refused (plate "0 0000000001 010 00 0101100 0000011 01") [] 14 16
    ++ plate_refused (plate "0 0000000001 010 00 0000011 1") [] 14 16
    ++ plate_refused (plate "0 0000000001 010 00 0000011 0 00000000") [] 14 16
    -- 11, after 15: scratch of 63 numbers, a short buffer
    ++ ((run_call (hex "002C9F2C18") [] [] 63 (untouched 9) gives (refusal 11 0, untouched 9)) ∷ [])
    ++ ((run_call (hex "002C9F2C19") [] [] 0 (untouched 9) gives (refusal 15 37, untouched 9)) ∷ [])
    ++ fits (read_plate_call (hex "002C9F2C18") []) (bytes "printex,OK\n") (wrote 11)
    ++ fits (run_call (hex "002C9F2C18") [] [] scratch_numbers) (bytes "V,OK\n") (ended 5 0 0 1 0)
