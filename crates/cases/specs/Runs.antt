-- Plates that are accepted, given by their bits, field by field: what is read and what is run, with a book and with own phrases.
use Rattle.std.specs.Prelude.{ℕ, List, [], ◌∷◌, ◌++◌, ℤ, pos}
use Rattle.text.specs.Quoted.{bytes}
use Rattle.listing.specs.Calls.{write_plate_call, read_plate_call}
use Rattle.walking.specs.Call.{walk_call}
use Rattle.running.specs.Call.{scratch_numbers, run_call}
use Rattle.translating.specs.Call.{translate_call}
use Rattle.cases.specs.Row.{Row, plate, writes, ends}

-- a book of two phrases, and a guide: two of its texts are in the book, two are not
abbrev pub book : List ℕ
book = bytes "Volts\nFuse\n"

abbrev pub guide : List ℕ
guide = bytes "input,0,Volts\nif,0,lt,100\nprint,a\nprintex,Fuse\nelse\nprint,ok\nfi\n"

-- its plate: n, input, if, print, printex, goto, print
abbrev pub spelled : List ℕ
spelled =
    plate
    "0 0000000110  000 00000 10 0  101 00000 010 00 0000000001100100 000000011  010 00 1100001 0000011  011 10 1  100 000000001  010 00 1101111 1101011 0000011"

-- the same instructions with an own phrase, as a listing, and its plate: the own phrase, n, and the instructions
abbrev pub listing : List ℕ
listing = bytes "phrase,ok\ninput,0,Volts\nif,0,lt,100,3\nprint,a\nprintex,Fuse\ngoto,1\nprint,ok\n"

abbrev pub phrased : List ℕ
phrased =
    plate
    "1 00000 1101111 1101011 0000011 0000000110  000 00000 10 0 0  101 00000 010 00 0000000001100100 000000011  010 00 1100001 0000011  011 10 0 1  100 000000001  010 10 1"

-- that guide walked and both plates run, with that book
abbrev pub alike : List ℤ → List ℕ → ℕ → ℕ → ℕ → List Row
alike answers transcript outcome taken steps =
    ends (walk_call guide book answers) transcript outcome taken steps
    ++ ends (run_call spelled book answers scratch_numbers) transcript outcome taken steps
    ++ ends (run_call phrased book answers scratch_numbers) transcript outcome taken steps

abbrev pub runs : List Row
runs =
    -- phrases: the book-or-own bit only where both have phrases; own phrases that no text uses
    writes (read_plate_call (plate "0 0000000001 010 10") (bytes "ok\n")) (bytes "print,ok\n")
    ++ writes (read_plate_call (plate "0 0000000001 010 10 1") (bytes "ok\nno\n")) (bytes "print,no\n")
    ++ writes (read_plate_call (plate "1 00000 1100001 0000011 0000000010 010 10 0 010 10 1") (bytes "ok\n")) (bytes "phrase,a\nprint,ok\nprint,a\n")
    ++ writes (read_plate_call (plate "1 00000 1100001 0000011 0000000000") []) (bytes "phrase,a\n")
    -- a book, and a listing with an own phrase: the guide translated, the listing written, the plate read; walks and runs with outcome 0, 1
    -- and 2
    ++ writes (translate_call guide book) spelled
    ++ writes (write_plate_call listing book) phrased
    ++ writes (read_plate_call phrased book) listing
    ++ alike (pos 90 ∷ []) (bytes "Q,Volts\nA,90\nS,a\nV,Fuse\n") 0 1 4
    ++ alike (pos 100 ∷ []) (bytes "Q,Volts\nA,100\nS,ok\n") 1 1 3
    ++ alike [] (bytes "Q,Volts\n") 2 0 1
    -- a run: goto and a failing if go to i + 1 + skip; what is passed over is no step; a last goto with skip 0 is one
    ++ ends
    (run_call (plate "0 0000000011 100 000000001 011 00 1100001 0000011 010 00 1100010 0000011") [] [] scratch_numbers)
    (bytes "S,b\n")
    1
    0
    2
    ++ ends
    (run_call (plate "0 0000000011 101 00000 001 00 0000000000000000 000000001 010 00 1100001 0000011 010 00 1100010 0000011") [] [] scratch_numbers)
    (bytes "S,b\n")
    1
    0
    2
    ++ ends (run_call (plate "0 0000000001 100 000000000") [] [] scratch_numbers) [] 1 0 1
