-- The refusals of write_plate, each with its place; each limit of a listing and one past it; listing and plate both ways.
use Rattle.std.specs.Prelude.{ℕ, zero, suc, List, [], ◌∷◌, ◌++◌, replicate}
use Rattle.text.specs.Quoted.{bytes}
use Rattle.causes.specs.Answers.{wrote}
use Rattle.phrases.specs.Phrases.{width}
use Rattle.listing.specs.Calls.{write_plate_call, read_plate_call}
use Rattle.cases.specs.Row.{Row, ◌counts◌, hex, times, print_line, numbered, refuses, writes, fits}

-- a listing written as a plate, and the plate read back
abbrev pub both : List ℕ → List ℕ → List ℕ → List Row
both listing book plate = writes (write_plate_call listing book) plate ++ writes (read_plate_call plate book) listing

-- n own phrases
unfoldable pub phrase_lines : ℕ → List ℕ
phrase_lines zero = []
phrase_lines (suc n) = phrase_lines n ++ bytes "phrase," ++ replicate (suc n) 97 ++ bytes "\n"

-- the bits of a place among n phrases
abbrev pub place_bits : ℕ → ℕ
place_bits n = width n

abbrev pub listings : List Row
listings =
    -- 1, and 1 before 2
    refuses (write_plate_call [] (bytes "a\nb,c\n")) 1 2
    ++ refuses (write_plate_call [] (bytes "a\nb\na\n")) 1 3
    ++ refuses (write_plate_call [] (bytes "a\nb")) 1 2
    ++ refuses (write_plate_call (replicate 327681 97) (numbered 257)) 1 257
    -- 2: 327,680 and 327,681 bytes
    ++ refuses (write_plate_call (replicate 327680 97) []) 3 1
    ++ refuses (write_plate_call (replicate 327681 97) []) 2 0
    -- 3: a last line without LF, a byte not allowed
    ++ refuses (write_plate_call (bytes "print,a\nprint,b") []) 3 2
    ++ refuses (write_plate_call (bytes "print,a\nprint,b" ++ (31 ∷ 10 ∷ [])) []) 3 2
    ++ refuses (write_plate_call (bytes "print,a\nprint,b" ++ (127 ∷ 10 ∷ [])) []) 3 2
    -- 4: unknown kind, wrong count of fields; a guide's if, else and fi
    ++ refuses (write_plate_call (bytes "print,a\nprin,a\n") []) 4 2
    ++ refuses (write_plate_call (bytes "print,a\n\n") []) 4 2
    ++ refuses (write_plate_call (bytes "print,a\nprint\n") []) 4 2
    ++ refuses (write_plate_call (bytes "print,a\nprint,a,b\n") []) 4 2
    ++ refuses (write_plate_call (bytes "print,a\ninput,0\n") []) 4 2
    ++ refuses (write_plate_call (bytes "print,a\ninputs,0,a,b\n") []) 4 2
    ++ refuses (write_plate_call (bytes "print,a\ninputs,0,a,b,c,d,e,f,g,h,i,j\n") []) 4 2
    ++ refuses (write_plate_call (bytes "print,a\nif,0,eq,0\n") []) 4 2
    ++ refuses (write_plate_call (bytes "print,a\nif,0,eq,0,0,0\n") []) 4 2
    ++ refuses (write_plate_call (bytes "print,a\nelse\n") []) 4 2
    ++ refuses (write_plate_call (bytes "print,a\nfi\n") []) 4 2
    ++ refuses (write_plate_call (bytes "print,a\ngoto\n") []) 4 2
    ++ refuses (write_plate_call (bytes "print,a\ngoto,0,0\n") []) 4 2
    -- 5: a text of 0 or 65 bytes, a register over 31, a malformed or too great number or skip, an unknown OP
    ++ refuses (write_plate_call (bytes "print,a\nprint,\n") []) 5 2
    ++ refuses (write_plate_call (bytes "print,a\nphrase,\n") []) 5 2
    ++ refuses (write_plate_call (bytes "print,a\ninput,32,a\n") []) 5 2
    ++ refuses (write_plate_call (bytes "print,a\ninputs,0,a,b,\n") []) 5 2
    ++ refuses (write_plate_call (bytes "print,a\nif,32,eq,0,0\n") []) 5 2
    ++ refuses (write_plate_call (bytes "print,a\nif,0,xx,0,0\n") []) 5 2
    ++ refuses (write_plate_call (bytes "print,a\nif,0,eq,-0,0\n") []) 5 2
    ++ refuses (write_plate_call (bytes "print,a\nif,0,eq,2147483648,0\n") []) 5 2
    ++ refuses (write_plate_call (bytes "print,a\nif,0,eq,-2147483649,0\n") []) 5 2
    ++ refuses (write_plate_call (bytes "print,a\nif,0,eq,0,512\n") []) 5 2
    ++ refuses (write_plate_call (bytes "print,a\nif,0,eq,0,00\n") []) 5 2
    ++ refuses (write_plate_call (bytes "print,a\nif,0,eq,0,-1\n") []) 5 2
    ++ refuses (write_plate_call (bytes "print,a\nif,0,eq,0,\n") []) 5 2
    ++ refuses (write_plate_call (bytes "print,a\ngoto,512\n") []) 5 2
    ++ refuses (write_plate_call (bytes "print,a\ngoto,01\n") []) 5 2
    ++ refuses (write_plate_call (bytes "print,a\ngoto,\n") []) 5 2
    ++ refuses (write_plate_call (bytes "print,a\ngoto,-0\n") []) 5 2
    ++ refuses (write_plate_call (bytes "print,a\ngoto,+1\n") []) 5 2
    ++ refuses (write_plate_call (bytes "print," ++ replicate 65 97 ++ bytes "\n") []) 5 1
    -- 6: late, repeated, in the book, 33rd
    ++ refuses (write_plate_call (bytes "goto,0\nphrase,b\n") []) 6 2
    ++ refuses (write_plate_call (bytes "phrase,b\nphrase,b\n") []) 6 2
    ++ refuses (write_plate_call (bytes "phrase,b\n") (bytes "a\nb\n")) 6 1
    ++ refuses (write_plate_call (phrase_lines 33) []) 6 33
    ++ refuses (write_plate_call (phrase_lines 32) []) 11 0
    -- 8: skip past n, at its line, after all lines; a skip to n is accepted; skips count instructions, lines count phrases too
    ++ refuses (write_plate_call (bytes "goto,1\nprint,a\nif,0,eq,0,1\n") []) 8 3
    ++ refuses (write_plate_call (bytes "phrase,x\nphrase,y\ngoto,1\n") []) 8 3
    ++ refuses (write_plate_call (bytes "goto,511\n") []) 8 1
    ++ refuses (write_plate_call (bytes "goto,1\nnone\n") []) 4 2
    ++ refuses (write_plate_call (bytes "goto,2\ngoto,1\ngoto,1\n") []) 8 3
    ++ writes (write_plate_call (bytes "goto,1\nif,0,eq,0,0\n") []) (hex "0050034000000000")
    -- 8 before 10
    ++ refuses (write_plate_call (times 52 (print_line 64) ++ bytes "goto,1\n") []) 8 53
    -- 9: 512 and 513 instructions
    ++ refuses (write_plate_call (times 512 (bytes "goto,0\n")) []) 11 0
    ++ refuses (write_plate_call (times 513 (bytes "goto,0\n")) []) 9 513
    -- 10: 2,953 and 2,954 bytes; 11: a buffer of the length, and one byte less
    ++ refuses (write_plate_call (times 51 (print_line 64) ++ print_line 20) []) 11 0
    ++ refuses (write_plate_call (times 51 (print_line 64) ++ print_line 21) []) 10 0
    ++ fits (write_plate_call (bytes "printex,OK\n") []) (hex "002C9F2C18") (wrote 5)
    -- a text that is a phrase is always written as one: with a book of 1, 2 and 3 phrases, with an own phrase and no book, with both
    ++ both (bytes "print,ok\n") (bytes "ok\n") (hex "002A")
    ++ both (bytes "print,no\n") (bytes "ok\nno\n") (hex "002A80")
    ++ both (bytes "print,c\n") (bytes "a\nb\nc\n") (hex "002A80")
    ++ both (bytes "phrase,ok\nprint,ok\n") [] (hex "837EB0600A80")
    ++ both (bytes "phrase,ok\nprint,ok\nprint,a\n") (bytes "a\n") (hex "837EB06012AA00")
    ++ both (bytes "phrase,ok\ninputs,7,a,ok,b,c\n") (bytes "a\nb\n") (hex "837EB060093C1B263060")
    -- the fewest bits that number so many phrases
    ++ ((place_bits 1 counts 0) ∷ [])
    ++ ((place_bits 2 counts 1) ∷ [])
    ++ ((place_bits 3 counts 2) ∷ [])
    ++ ((place_bits 16 counts 4) ∷ [])
    ++ ((place_bits 17 counts 5) ∷ [])
    ++ ((place_bits 18 counts 5) ∷ [])
    ++ ((place_bits 32 counts 5) ∷ [])
    ++ ((place_bits 33 counts 6) ∷ [])
    ++ ((place_bits 128 counts 7) ∷ [])
    ++ ((place_bits 129 counts 8) ∷ [])
    ++ ((place_bits 255 counts 8) ∷ [])
    ++ ((place_bits 256 counts 8) ∷ [])
    -- each kind, each OP, constants at both widths, both ways
    ++ both (bytes "input,31,V\ninputs,0,Q,a,b\ninputs,1,Q,a,b,c,d,e,f,g,h\nprint,p\nif,0,eq,0,1\nif,1,ne,32767,0\nif,2,lt,-32768,0\nif,3,le,32768,4\nif,4,gt,-32769,3\nif,5,ge,2147483647,0\nif,6,eq,-2147483648,1\ngoto,0\nprintex,v\n") [] (hex "01A3E56064051060C20CC40C84A20F1841988198C199019941998199C19A01A3803A000000006848FFFE00A2440000028DA0001000004A48FFFFBFFF80E96AFFFFFFFE00A60C00000000060019D818")
