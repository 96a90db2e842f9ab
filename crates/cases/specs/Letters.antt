-- Document 02, f): letters beyond ASCII, in the book, in the lines of guides and listings, and on plates by code 01, with the refusals and
-- their places. A plate of one print has 16 bits in front of its text, so that a text of code 01 is 0029, its bytes and 03.
use Rattle.std.specs.Prelude.{ℕ, List, [], ◌∷◌, ◌++◌, replicate, pos}
use Rattle.bits.specs.Bits.{pack}
use Rattle.text.specs.Quoted.{bytes}
use Rattle.listing.specs.Calls.{write_plate_call}
use Rattle.walking.specs.Call.{walk_call}
use Rattle.running.specs.Call.{scratch_numbers, run_call}
use Rattle.translating.specs.Call.{translate_call}
use Rattle.show.specs.Show.{shown}
use Rattle.cases.specs.Row.{Row, ◌prints◌, hex, utf8, bits_in, plate, times, refuses, writes, ends, guide_refused, plate_refused, meets}
use Rattle.cases.specs.Listings.{both}

-- a print line of these bytes
abbrev pub printed : List ℕ → List ℕ
printed s = bytes "print," ++ s ++ bytes "\n"

-- the plate of one print whose text has these bytes, by code 01
abbrev pub lettered : List ℕ → List ℕ
lettered s = hex "0029" ++ s ++ hex "03"

-- a book that every call refuses
abbrev pub book_refused : List ℕ → ℕ → List Row
book_refused book line =
    guide_refused [] book 1 line ++ refuses (write_plate_call [] book) 1 line ++ plate_refused (hex "0000") book 1 line

-- lines that guides and listings share, refused in both
abbrev pub lines_refused : List ℕ → ℕ → ℕ → List Row
lines_refused lines number line = guide_refused lines [] number line ++ refuses (write_plate_call lines []) number line

-- bytes that no text holds: 1 in the second line of a book, 3 in the second line of a guide or listing, 14 at the first character of a text
-- on a plate
abbrev pub ill_formed : List ℕ → List Row
ill_formed s =
    book_refused (bytes "a\nb" ++ s ++ bytes "\n") 2
    ++ lines_refused (bytes "print,a\nprint,b" ++ s ++ bytes "\n") 3 2
    ++ plate_refused (lettered (bytes "b" ++ s)) [] 14 16

-- a letter that is accepted: as the text of a guide and of a listing, on a plate, and as a phrase of the book, by 10 and its place
abbrev pub allows : List ℕ → List Row
allows s =
    writes (translate_call (printed s) []) (lettered s)
    ++ both (printed s) [] (lettered s)
    ++ both (printed s) (s ++ bytes "\n") (hex "002A")

-- a text that is too long: 1 in the book, 5 in a line, 14 on a plate
abbrev pub too_long : List ℕ → List Row
too_long s =
    book_refused (s ++ bytes "\n") 1 ++ lines_refused (bytes "print,a\n" ++ printed s) 5 2 ++ plate_refused (lettered s) [] 14 16

-- the names as UTF-8: letters of one to four bytes
abbrev pub encodings : List Row
encodings =
    (utf8 "São João" prints hex "53C3A36F204A6FC3A36F")
    ∷ (utf8 "Łódź" prints hex "C581C3B364C5BA")
    ∷ (utf8 "Ōtorohanga" prints hex "C58C746F726F68616E6761")
    ∷ (utf8 "2 €" prints hex "3220E282AC")
    ∷ (utf8 "⚡" prints hex "E29AA1")
    ∷ (utf8 "🔌" prints hex "F09F948C")
    ∷ []

abbrev pub sequences : List Row
sequences =
    -- a stray continuation, alone and behind a letter
    ill_formed (hex "80")
    ++ ill_formed (hex "BF")
    ++ ill_formed (hex "C3A9A9")
    -- a cut sequence of 2, 3 and 4 bytes, at the end and in front of another character
    ++ ill_formed (hex "C3")
    ++ ill_formed (hex "E282")
    ++ ill_formed (hex "F09F94")
    ++ ill_formed (hex "C361")
    ++ ill_formed (hex "E282C3A9")
    -- overlong of 2, 3 and 4 bytes: the first and the last of each
    ++ ill_formed (hex "C080")
    ++ ill_formed (hex "C1BF")
    ++ ill_formed (hex "E08080")
    ++ ill_formed (hex "E09FBF")
    ++ ill_formed (hex "F0808080")
    ++ ill_formed (hex "F08FBFBF")
    -- surrogates: U+D800 and U+DFFF
    ++ ill_formed (hex "EDA080")
    ++ ill_formed (hex "EDBFBF")
    -- above U+10FFFF; bytes that no letter has
    ++ ill_formed (hex "F4908080")
    ++ ill_formed (hex "F5808080")
    ++ ill_formed (hex "FF")
    -- the first and the last letter of 2, 3 and 4 bytes; around the surrogates; U+FEFF and U+FFFF are letters as any other
    ++ allows (hex "C280")
    ++ allows (hex "DFBF")
    ++ allows (hex "E0A080")
    ++ allows (hex "E18080")
    ++ allows (hex "ECBFBF")
    ++ allows (hex "ED9FBF")
    ++ allows (hex "EE8080")
    ++ allows (hex "EFBBBF")
    ++ allows (hex "EFBFBF")
    ++ allows (hex "F0908080")
    ++ allows (hex "F1808080")
    ++ allows (hex "F3BFBFBF")
    ++ allows (hex "F48FBFBF")

-- 64 bytes, not letters: 32 letters of 2 bytes; one letter more, one byte more
abbrev pub sizes : List Row
sizes =
    allows (times 32 (utf8 "é"))
    ++ allows (replicate 62 97 ++ utf8 "é")
    ++ allows (times 16 (utf8 "🔌"))
    ++ too_long (times 33 (utf8 "é"))
    ++ too_long (times 32 (utf8 "é") ++ bytes "a")
    ++ too_long (replicate 63 97 ++ utf8 "é")
    -- 10: 44 such texts of 64 bytes take 525 bits each; one more of 62 bytes makes 2,953 bytes, one of 63 bytes 2,954
    ++ refuses (translate_call (times 44 (printed (times 32 (utf8 "é"))) ++ printed (times 31 (utf8 "é"))) []) 11 0
    ++ refuses (translate_call (times 44 (printed (times 32 (utf8 "é"))) ++ printed (times 31 (utf8 "é") ++ bytes "a")) []) 10 0

-- lines: what comes before what
abbrev pub lines : List Row
lines =
    -- 3: ill-formed in a kind, a number, an OP; in front of a wrong kind and a wrong count of fields; where a comma or LF parts a letter
    lines_refused (hex "C3" ++ bytes "\n") 3 1
    ++ lines_refused (bytes "print" ++ hex "80" ++ bytes ",a\n") 3 1
    ++ lines_refused (bytes "input,0" ++ hex "80" ++ bytes ",a\n") 3 1
    ++ lines_refused (bytes "if,0,e" ++ hex "FF" ++ bytes ",0\n") 3 1
    ++ lines_refused (bytes "print,a," ++ hex "C3" ++ bytes "\n") 3 1
    ++ lines_refused (bytes "print," ++ hex "C32CA9" ++ bytes "\n") 3 1
    ++ lines_refused (bytes "inputs,0,q,a" ++ hex "C32CA9" ++ bytes "b\n") 3 1
    ++ lines_refused (bytes "print," ++ hex "C30AA9" ++ bytes "\n") 3 1
    ++ lines_refused (bytes "print,a\nphrase," ++ hex "80" ++ bytes "\n") 3 2
    ++ book_refused (bytes "a\n" ++ hex "C32CA9" ++ bytes "\n") 2
    -- 3: 127 and bytes below 32 beside letters, a last line without LF; 1 in the book; an earlier line's fault comes first
    ++ lines_refused (utf8 "print,é" ++ hex "7F0A") 3 1
    ++ lines_refused (utf8 "print,é" ++ hex "1F0A") 3 1
    ++ lines_refused (utf8 "print,é") 3 1
    ++ book_refused (utf8 "é" ++ hex "7F0A") 1
    ++ book_refused (utf8 "é,è\n") 1
    ++ lines_refused (bytes "none\nprint," ++ hex "80" ++ bytes "\n") 4 1
    -- 4: letters in a kind, U+FEFF in front of one; a wrong count of fields, which comes before 5
    ++ lines_refused (utf8 "é\n") 4 1
    ++ lines_refused (utf8 "prïnt,a\n") 4 1
    ++ lines_refused (utf8 "printé,a\n") 4 1
    ++ lines_refused (hex "EFBBBF" ++ bytes "print,a\n") 4 1
    ++ lines_refused (utf8 "print,é,è\n") 4 1
    ++ lines_refused (utf8 "input,é\n") 4 1
    ++ lines_refused (utf8 "inputs,é,q,a\n") 4 1
    ++ guide_refused (utf8 "else,é\n") [] 4 1
    -- 5: letters in R, OP, C and SKIP; digits and a minus that are none of ASCII's
    ++ lines_refused (utf8 "input,é,a\n") 5 1
    ++ lines_refused (utf8 "input,１,a\n") 5 1
    ++ lines_refused (utf8 "inputs,0é,q,a,b\n") 5 1
    ++ guide_refused (utf8 "if,é,eq,0\n") [] 5 1
    ++ guide_refused (utf8 "if,0,ëq,0\n") [] 5 1
    ++ guide_refused (utf8 "if,0,eq,é\n") [] 5 1
    ++ guide_refused (utf8 "if,0,eq,−1\n") [] 5 1
    ++ refuses (write_plate_call (utf8 "if,0,eq,0é,0\n") []) 5 1
    ++ refuses (write_plate_call (utf8 "if,0,eq,0,é\n") []) 5 1
    ++ refuses (write_plate_call (utf8 "goto,é\n") []) 5 1
    -- 5: an own phrase with a byte of 128 or more, also when late, also where the book has it; in a guide too, before 6
    ++ lines_refused (utf8 "phrase,é\n") 5 1
    ++ lines_refused (utf8 "print,a\nphrase,café\n") 5 2
    ++ refuses (write_plate_call (utf8 "phrase,é\n") (utf8 "é\n")) 5 1
    ++ refuses (write_plate_call (utf8 "phrase,a\nphrase,a\nphrase,é\n") []) 6 2

-- the book: letters in its phrases, which are written by 10 and their place
abbrev pub books : List Row
books =
    both (utf8 "print,Łódź\n") (utf8 "a\nSão João\nŁódź\n") (plate "0 0000000001 010 10 10")
    ++ plate_refused (lettered (utf8 "Łódź")) (utf8 "a\nSão João\nŁódź\n") 14 16
    ++ book_refused (utf8 "é\nè\né\n") 3
    -- no normal forms: U+00E9 and U+0065 U+0301 are two texts
    ++ both (printed (hex "65CC81")) (hex "C3A90A65CC810A") (plate "0 0000000001 010 10 1")
    -- an own phrase beside: the book-or-own bit; a phrase that is spelled, and one that is not
    ++ both
    (utf8 "phrase,ok\nprint,é\nprint,ok\nprint,è\n")
    (utf8 "é\n")
    (plate "1 00000 1101111 1101011 0000011 0000000011 010 10 0 010 10 1 010 01 11000011 10101000 00000011")

-- code 01 on a plate, at each fault
abbrev pub codes : List Row
codes =
    -- 14 at the first character: an ASCII text, an empty one, 65 bytes of ASCII, an ETX inside a letter; before 15
    plate_refused (lettered (bytes "a")) [] 14 16
    ++ plate_refused (lettered []) [] 14 16
    ++ plate_refused (lettered (replicate 65 97)) [] 14 16
    ++ plate_refused (lettered (hex "C303A9")) [] 14 16
    ++ plate_refused (lettered (bytes "a") ++ hex "00") [] 14 16
    -- an ASCII phrase of the book or an own one, spelled by 01
    ++ plate_refused (lettered (bytes "a")) (bytes "a\n") 14 16
    ++ plate_refused (plate "1 00000 1100001 0000011 0000000001 010 01 01100001 00000011") [] 14 35
    -- 14 at the character, at once: a byte below 32, 127, a comma; inside a letter; behind the 70th byte; before an ill-formed text
    ++ plate_refused (hex "0029C3A91F") [] 14 32
    ++ plate_refused (hex "0029C3A900") [] 14 32
    ++ plate_refused (hex "0029C3A97F") [] 14 32
    ++ plate_refused (hex "0029C3A92C") [] 14 32
    ++ plate_refused (hex "0029C32CA903") [] 14 24
    ++ plate_refused (hex "002980FF1F03") [] 14 32
    ++ plate_refused (hex "0029" ++ times 35 (utf8 "é") ++ hex "1F") [] 14 576
    -- 12: at the first character, inside a letter, at the ETX, at the 67th; a character cut off
    ++ plate_refused (hex "0029") [] 12 16
    ++ plate_refused (hex "0029C3") [] 12 24
    ++ plate_refused (hex "0029C3A9") [] 12 32
    ++ plate_refused (hex "0029" ++ times 33 (utf8 "é")) [] 12 544
    ++ plate_refused (plate "0 0000000001 000 00000 01 11000011 101") [] 12 29
    -- 13: code 11; 15: a one among the filling bits, a spare byte
    ++ plate_refused (hex "002BC3A903") [] 13 14
    ++ plate_refused (plate "0 0000000001 000 00000 01 11000011 10101001 00000011 001") [] 15 45
    ++ plate_refused (lettered (utf8 "é") ++ hex "00") [] 15 40
    -- 8 behind a text of code 01
    ++ plate_refused (plate "0 0000000010 010 01 11000011 10101001 00000011 100 000000001") [] 8 43
    -- a question and an option by 01, an option by 00; a verdict
    ++ both
    (utf8 "inputs,3,é,a,ü\n")
    []
    (plate "0 0000000001 001 00011 01 11000011 10101001 00000011 000 00 1100001 0000011 01 11000011 10111100 00000011")
    ++ both (utf8 "printex,é\n") [] (hex "002DC3A903")

-- a whole guide
abbrev pub guide : List ℕ
guide = utf8 "input,0,São João\nif,0,lt,100\nprintex,Łódź\nelse\nprint,Ōtorohanga\nfi\nprint,ok\n"

abbrev pub listing : List ℕ
listing = utf8 "input,0,São João\nif,0,lt,100,2\nprintex,Łódź\ngoto,1\nprint,Ōtorohanga\nprint,ok\n"

-- a book that has two of its names, and the plate with that book: n, input, if, printex, goto, print, print
abbrev pub book : List ℕ
book = utf8 "Ōtorohanga\nSão João\n"

abbrev pub phrased : List ℕ
phrased =
    pack
    (bits_in "0 0000000110  000 00000 10 1  101 00000 010 00 0000000001100100 000000010  011 01"
    ++ bits_in "11000101 10000001 11000011 10110011 01100100 11000101 10111010 00000011"
    ++ bits_in "100 000000001  010 10 0  010 00 1101111 1101011 0000011")

abbrev pub whole : List Row
whole =
    -- 11 + 98 + 38 + 69 + 12 + 101 + 26 bits
    ((shown guide
    prints listing ++ bytes "plate,00C00A9E1D1B7902537E1D1B781D020019004DC581C3B364C5BA038014E2C63A37B937B430B733B081A37EB060\n")
    ∷ [])
    ++ both listing [] (hex "00C00A9E1D1B7902537E1D1B781D020019004DC581C3B364C5BA038014E2C63A37B937B430B733B081A37EB060")
    ++ writes (translate_call guide book) phrased
    ++ both listing book phrased
    ++ meets guide (pos 90 ∷ []) (utf8 "Q,São João\nA,90\nV,Łódź\n") 0 1 3
    ++ meets guide (pos 100 ∷ []) (utf8 "Q,São João\nA,100\nS,Ōtorohanga\nS,ok\n") 1 1 4
    ++ meets guide [] (utf8 "Q,São João\n") 2 0 1
    ++ ends (walk_call guide book (pos 90 ∷ [])) (utf8 "Q,São João\nA,90\nV,Łódź\n") 0 1 3
    ++ ends (run_call phrased book (pos 90 ∷ []) scratch_numbers) (utf8 "Q,São João\nA,90\nV,Łódź\n") 0 1 3
    ++ ends (run_call phrased book (pos 100 ∷ []) scratch_numbers) (utf8 "Q,São João\nA,100\nS,Ōtorohanga\nS,ok\n") 1 1 4

abbrev pub letters : List Row
letters = encodings ++ sequences ++ sizes ++ lines ++ books ++ codes ++ whole
