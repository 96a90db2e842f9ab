-- The refusals of translate and walk, each with its place; each limit of a guide and one past it.
use Rattle.std.specs.Prelude.{ℕ, List, [], ◌∷◌, ◌++◌, replicate}
use Rattle.text.specs.Quoted.{bytes}
use Rattle.causes.specs.Answers.{wrote}
use Rattle.translating.specs.Call.{translate_call}
use Rattle.walking.specs.Call.{walk_call}
use Rattle.cases.specs.Row.{Row, hex, times, print_line, numbered, refuses, writes, fits, guide_refused, meets}

-- a guide of 16,384 bytes
abbrev pub longest : List ℕ
longest = times 230 (print_line 64) ++ print_line 47

abbrev pub guides : List Row
guides =
    -- 1: a comma, a repeated text, no last LF, an empty text, a byte not allowed
    guide_refused [] (bytes "a\nb,c\n") 1 2
    ++ guide_refused [] (bytes "a\nb\na\n") 1 3
    ++ guide_refused [] (bytes "a\nb") 1 2
    ++ guide_refused [] (bytes "a\n\n") 1 2
    ++ guide_refused [] (31 ∷ 10 ∷ []) 1 1
    ++ guide_refused [] (127 ∷ 10 ∷ []) 1 1
    -- 64 and 65 bytes; 256 and 257 phrases; 1 before 2
    ++ writes (translate_call [] (replicate 64 97 ++ bytes "\n")) (hex "0000")
    ++ guide_refused [] (replicate 65 97 ++ bytes "\n") 1 1
    ++ writes (translate_call [] (numbered 256)) (hex "0000")
    ++ guide_refused [] (numbered 257) 1 257
    ++ guide_refused (replicate 16385 97) (bytes "a") 1 1
    -- 2: 16,384 and 16,385 bytes
    ++ refuses (translate_call longest []) 10 0
    ++ refuses (walk_call longest [] []) 11 0
    ++ guide_refused (replicate 16385 97) [] 2 0
    -- 3: a last line without LF, a byte not allowed; before 4 on its line, and by lines
    ++ guide_refused (bytes "print,a\nprint,b") [] 3 2
    ++ guide_refused (bytes "nokind") [] 3 1
    ++ guide_refused (bytes "print,a\nprint,b" ++ (31 ∷ 10 ∷ [])) [] 3 2
    ++ guide_refused (bytes "print,a\nprint,b" ++ (127 ∷ 10 ∷ [])) [] 3 2
    ++ guide_refused (bytes "print,a\nprint,b" ++ (13 ∷ 10 ∷ [])) [] 3 2
    ++ guide_refused (bytes "print,a\nprint,b" ++ (0 ∷ 10 ∷ [])) [] 3 2
    ++ guide_refused (bytes "print,a\nprint,b" ++ (255 ∷ 10 ∷ [])) [] 3 2
    ++ guide_refused (bytes "none\nprint,b" ++ (9 ∷ 10 ∷ [])) [] 4 1
    -- 4: unknown kind, wrong count of fields
    ++ guide_refused (bytes "print,a\nprin,a\n") [] 4 2
    ++ guide_refused (bytes "print,a\n\n") [] 4 2
    ++ guide_refused (bytes "print,a\nprint\n") [] 4 2
    ++ guide_refused (bytes "print,a\nphrase\n") [] 4 2
    ++ guide_refused (bytes "print,a\nprint,a,b\n") [] 4 2
    ++ guide_refused (bytes "print,a\nphrase,a,b\n") [] 4 2
    ++ guide_refused (bytes "print,a\nprintex\n") [] 4 2
    ++ guide_refused (bytes "print,a\ninput,0\n") [] 4 2
    ++ guide_refused (bytes "print,a\ninput,0,a,b\n") [] 4 2
    ++ guide_refused (bytes "print,a\ninputs,0,a,b\n") [] 4 2
    ++ guide_refused (bytes "print,a\ninputs,0,a,b,c,d,e,f,g,h,i,j\n") [] 4 2
    ++ guide_refused (bytes "print,a\nif,0,eq\n") [] 4 2
    ++ guide_refused (bytes "print,a\nif,0,eq,0,0\n") [] 4 2
    ++ guide_refused (bytes "print,a\nelse,\n") [] 4 2
    ++ guide_refused (bytes "print,a\nfi \n") [] 4 2
    ++ guide_refused (bytes "print,a\ngoto,0\n") [] 4 2
    ++ guide_refused (bytes "print,a\nPrint,a\n") [] 4 2
    -- 2 and 8 options; a text of 64 bytes
    ++ writes (translate_call (bytes "inputs,0,a,b,c\n") []) (hex "0024061060C40CC60C")
    ++ refuses (translate_call (bytes "inputs,0,a,b,c,d,e,f,g,h,i\n") []) 11 0
    ++ refuses (translate_call (bytes "print," ++ replicate 64 97 ++ bytes "\n") []) 11 0
    -- 5: a text of 0 or 65 bytes, a register over 31, a malformed or too great number, an unknown OP
    ++ guide_refused (bytes "print,a\nprint,\n") [] 5 2
    ++ guide_refused (bytes "print,a\nphrase,\n") [] 5 2
    ++ guide_refused (bytes "print,a\ninput,0,\n") [] 5 2
    ++ guide_refused (bytes "print,a\ninputs,0,a,b,\n") [] 5 2
    ++ guide_refused (bytes "print,a\ninput,32,a\n") [] 5 2
    ++ guide_refused (bytes "print,a\ninput,01,a\n") [] 5 2
    ++ guide_refused (bytes "print,a\ninput,,a\n") [] 5 2
    ++ guide_refused (bytes "print,a\ninput,+1,a\n") [] 5 2
    ++ guide_refused (bytes "print,a\ninput,-1,a\n") [] 5 2
    ++ guide_refused (bytes "print,a\ninput,x,a\n") [] 5 2
    ++ guide_refused (bytes "print,a\nif,32,eq,0\n") [] 5 2
    ++ guide_refused (bytes "print,a\nif,0,xx,0\n") [] 5 2
    ++ guide_refused (bytes "print,a\nif,0,,0\n") [] 5 2
    ++ guide_refused (bytes "print,a\nif,0,EQ,0\n") [] 5 2
    ++ guide_refused (bytes "print,a\nif,0,eq,-0\n") [] 5 2
    ++ guide_refused (bytes "print,a\nif,0,eq,+1\n") [] 5 2
    ++ guide_refused (bytes "print,a\nif,0,eq,01\n") [] 5 2
    ++ guide_refused (bytes "print,a\nif,0,eq,-01\n") [] 5 2
    ++ guide_refused (bytes "print,a\nif,0,eq,\n") [] 5 2
    ++ guide_refused (bytes "print,a\nif,0,eq,-\n") [] 5 2
    ++ guide_refused (bytes "print,a\nif,0,eq,2147483648\n") [] 5 2
    ++ guide_refused (bytes "print,a\nif,0,eq,-2147483649\n") [] 5 2
    ++ guide_refused (bytes "print,a\nif,0,eq,1 \n") [] 5 2
    ++ guide_refused (bytes "print," ++ replicate 65 97 ++ bytes "\n") [] 5 1
    -- register 31 and the least and greatest constants
    ++ refuses (translate_call (bytes "if,31,eq,2147483647\nfi\nif,0,ne,-2147483648\nfi\n") []) 11 0
    -- 6: a phrase line, wherever it stands and whatever the book has; on its line 3, 4 and 5 come first, 9 does not; an earlier line's fault
    -- comes first
    ++ guide_refused (bytes "phrase,b\n") [] 6 1
    ++ guide_refused (bytes "phrase,b\n") (bytes "a\nb\n") 6 1
    ++ guide_refused (bytes "print,a\nphrase,b\n") [] 6 2
    ++ guide_refused (bytes "if,0,eq,0\nphrase,b\nfi\n") [] 6 2
    ++ guide_refused (bytes "if,0,eq,0\nfi\nphrase,b\n") [] 6 3
    ++ guide_refused (bytes "phrase,b\nphrase,b\n") [] 6 1
    ++ guide_refused (times 512 (bytes "print,a\n") ++ bytes "phrase,b\n") [] 6 513
    ++ guide_refused (bytes "phrase," ++ (127 ∷ 10 ∷ [])) [] 3 1
    ++ guide_refused (bytes "phrase,a,b\n") [] 4 1
    ++ guide_refused (bytes "phrase,\n") [] 5 1
    ++ guide_refused (bytes "phrase," ++ replicate 65 97 ++ bytes "\n") [] 5 1
    ++ guide_refused (bytes "print,\nphrase,b\n") [] 5 1
    -- 7: else or fi without its if, second else, 17th level, if left open; 4 before 7
    ++ guide_refused (bytes "print,a\nelse\n") [] 7 2
    ++ guide_refused (bytes "print,a\nfi\n") [] 7 2
    ++ guide_refused (bytes "if,0,eq,0\nfi\nfi\n") [] 7 3
    ++ guide_refused (bytes "if,0,eq,0\nelse\nelse\nfi\n") [] 7 3
    ++ guide_refused (bytes "if,0,eq,0\nif,0,eq,0\nfi\nprint,a\n") [] 7 1
    ++ guide_refused (bytes "if,0,eq,0\nif,0,eq,0\nelse\n") [] 7 2
    ++ guide_refused (bytes "else,x\n") [] 4 1
    ++ guide_refused (times 17 (bytes "if,0,eq,0\n") ++ times 17 (bytes "fi\n")) [] 7 17
    ++ meets (times 16 (bytes "if,0,eq,0\n") ++ times 16 (bytes "fi\n")) [] [] 1 0 16
    -- 9: 513th instruction, an else line too; 7 before 9; 512 instructions
    ++ refuses (translate_call (times 512 (bytes "print,a\n")) []) 11 0
    ++ refuses (walk_call (times 512 (bytes "print,a\n")) [] []) 11 0
    ++ guide_refused (times 513 (bytes "print,a\n")) [] 9 513
    ++ guide_refused (bytes "if,0,eq,0\n" ++ times 511 (bytes "print,a\n") ++ bytes "else\nfi\n") [] 9 513
    ++ guide_refused (bytes "if,0,eq,0\nelse\n" ++ times 510 (bytes "print,a\n") ++ bytes "else\nfi\n") [] 7 513
    -- 10: 2,953 and 2,954 bytes; 11: a buffer of the length, and one byte less
    ++ refuses (translate_call (times 51 (print_line 64) ++ print_line 20) []) 11 0
    ++ refuses (translate_call (times 51 (print_line 64) ++ print_line 21) []) 10 0
    ++ fits (translate_call (bytes "printex,OK\n") []) (hex "002C9F2C18") (wrote 5)
