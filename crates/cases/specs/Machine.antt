-- What walk and run do: each OP, each transcript line, each outcome, options, registers, steps.
use Rattle.std.specs.Prelude.{ℕ, List, [], ◌∷◌, ◌++◌, ℤ, pos, negsuc}
use Rattle.causes.specs.Answers.{ended, refusal}
use Rattle.text.specs.Quoted.{bytes}
use Rattle.walking.specs.Call.{walk_call}
use Rattle.running.specs.Call.{scratch_numbers, run_call}
use Rattle.translating.specs.Call.{translation}
use Rattle.cases.specs.Row.{Row, ◌gives◌, refuses, fits, tries, meets, bytes_made, untouched}

-- an if on register 5 with an else: what it shows for an answer
abbrev pub shows : List ℕ → List ℕ → ℤ → List ℕ → List ℕ → ℕ → List Row
shows op constant answer written shown steps =
    meets
    (bytes "input,5,R\nif,5," ++ op ++ bytes "," ++ constant ++ bytes "\nprint,yes\nelse\nprint,no\nfi\n")
    (answer ∷ [])
    (bytes "Q,R\nA," ++ written ++ bytes "\nS," ++ shown ++ bytes "\n")
    1
    1
    steps

-- the test holds (and the true block is left by a step), or it does not
abbrev pub yes : List ℕ → List ℕ → ℤ → List ℕ → List Row
yes op constant answer written = shows op constant answer written (bytes "yes") 4

abbrev pub no' : List ℕ → List ℕ → ℤ → List ℕ → List Row
no' op constant answer written = shows op constant answer written (bytes "no") 3

-- each OP below, at and above its constant, which is 7 and -7; the greatest and the least answer
abbrev pub operators : List Row
operators =
    no' (bytes "eq") (bytes "7") (pos 6) (bytes "6")
    ++ yes (bytes "eq") (bytes "7") (pos 7) (bytes "7")
    ++ no' (bytes "eq") (bytes "7") (pos 8) (bytes "8")
    ++ yes (bytes "ne") (bytes "7") (pos 6) (bytes "6")
    ++ no' (bytes "ne") (bytes "7") (pos 7) (bytes "7")
    ++ yes (bytes "ne") (bytes "7") (pos 8) (bytes "8")
    ++ yes (bytes "lt") (bytes "7") (pos 6) (bytes "6")
    ++ no' (bytes "lt") (bytes "7") (pos 7) (bytes "7")
    ++ no' (bytes "lt") (bytes "7") (pos 8) (bytes "8")
    ++ yes (bytes "le") (bytes "7") (pos 6) (bytes "6")
    ++ yes (bytes "le") (bytes "7") (pos 7) (bytes "7")
    ++ no' (bytes "le") (bytes "7") (pos 8) (bytes "8")
    ++ no' (bytes "gt") (bytes "7") (pos 6) (bytes "6")
    ++ no' (bytes "gt") (bytes "7") (pos 7) (bytes "7")
    ++ yes (bytes "gt") (bytes "7") (pos 8) (bytes "8")
    ++ no' (bytes "ge") (bytes "7") (pos 6) (bytes "6")
    ++ yes (bytes "ge") (bytes "7") (pos 7) (bytes "7")
    ++ yes (bytes "ge") (bytes "7") (pos 8) (bytes "8")
    ++ no' (bytes "eq") (bytes "-7") (negsuc 7) (bytes "-8")
    ++ yes (bytes "eq") (bytes "-7") (negsuc 6) (bytes "-7")
    ++ no' (bytes "eq") (bytes "-7") (pos 7) (bytes "7")
    ++ yes (bytes "ne") (bytes "-7") (negsuc 7) (bytes "-8")
    ++ no' (bytes "ne") (bytes "-7") (negsuc 6) (bytes "-7")
    ++ yes (bytes "ne") (bytes "-7") (pos 7) (bytes "7")
    ++ yes (bytes "lt") (bytes "-7") (negsuc 7) (bytes "-8")
    ++ no' (bytes "lt") (bytes "-7") (negsuc 6) (bytes "-7")
    ++ no' (bytes "lt") (bytes "-7") (pos 0) (bytes "0")
    ++ yes (bytes "le") (bytes "-7") (negsuc 7) (bytes "-8")
    ++ yes (bytes "le") (bytes "-7") (negsuc 6) (bytes "-7")
    ++ no' (bytes "le") (bytes "-7") (negsuc 5) (bytes "-6")
    ++ no' (bytes "gt") (bytes "-7") (negsuc 7) (bytes "-8")
    ++ no' (bytes "gt") (bytes "-7") (negsuc 6) (bytes "-7")
    ++ yes (bytes "gt") (bytes "-7") (pos 0) (bytes "0")
    ++ no' (bytes "ge") (bytes "-7") (negsuc 7) (bytes "-8")
    ++ yes (bytes "ge") (bytes "-7") (negsuc 6) (bytes "-7")
    ++ yes (bytes "ge") (bytes "-7") (pos 0) (bytes "0")
    ++ yes (bytes "gt") (bytes "2147483646") (pos 2147483647) (bytes "2147483647")
    ++ yes (bytes "lt") (bytes "-2147483647") (negsuc 2147483647) (bytes "-2147483648")

-- a question with two options, and a verdict on the second
abbrev pub choice : List ℕ
choice = bytes "inputs,31,Lamp,on,off\nif,31,eq,1\nprintex,Dark\nfi\n"

-- nested ifs with else lines, a verdict inside a true block, and an empty true block
abbrev pub nested : List ℕ
nested =
    bytes "input,1,N\nif,1,ge,0\nif,1,gt,5\nprint,big\nelse\nif,1,eq,3\nprintex,three\nfi\nfi\nelse\nprint,less\nfi\nif,1,lt,9\nelse\nfi\n"

-- document 02, c): one wrong answer, two, three, and the right one as the third; "in the same question", so that the count begins again with the
-- next question, and an input has none
abbrev pub colour : List ℕ
colour = bytes "inputs,3,Col,red,blue\n"

abbrev pub wrong_choices : List Row
wrong_choices =
    tries colour (pos 5 ∷ []) (bytes "C,Col,red,blue\nA,5\nC,Col,red,blue\n") 2 1 2 1
    ++ tries colour (pos 5 ∷ pos 6 ∷ []) (bytes "C,Col,red,blue\nA,5\nC,Col,red,blue\nA,6\nC,Col,red,blue\n") 2 2 3 2
    ++ tries colour (pos 5 ∷ pos 6 ∷ pos 7 ∷ []) (bytes "C,Col,red,blue\nA,5\nC,Col,red,blue\nA,6\nC,Col,red,blue\n") 3 2 3 3
    ++ tries colour (pos 5 ∷ pos 6 ∷ pos 7 ∷ pos 1 ∷ []) (bytes "C,Col,red,blue\nA,5\nC,Col,red,blue\nA,6\nC,Col,red,blue\n") 3 2 3 3
    ++ meets
    colour
    (pos 5 ∷ pos 6 ∷ pos 1 ∷ [])
    (bytes "C,Col,red,blue\nA,5\nC,Col,red,blue\nA,6\nC,Col,red,blue\nA,1\n")
    1
    3
    3
    ++ tries
    (bytes "inputs,0,p,a,b\ninputs,0,q,c,d\n")
    (pos 5 ∷ pos 0 ∷ pos 6 ∷ [])
    (bytes "C,p,a,b\nA,5\nC,p,a,b\nA,0\nC,q,c,d\nA,6\nC,q,c,d\n")
    2
    3
    4
    1
    ++ meets
    (bytes "inputs,0,p,a,b\ninput,1,q\n")
    (pos 5 ∷ pos 0 ∷ [])
    (bytes "C,p,a,b\nA,5\nC,p,a,b\nA,0\nQ,q\n")
    2
    2
    3

abbrev pub machine : List Row
machine =
    operators
    -- a C line; the first option, the last, one past it, one below 0, no answer; of 8 options the last and one past it
    ++ meets choice (pos 0 ∷ []) (bytes "C,Lamp,on,off\nA,0\n") 1 1 2
    ++ meets choice (pos 1 ∷ []) (bytes "C,Lamp,on,off\nA,1\nV,Dark\n") 0 1 3
    ++ tries choice (pos 2 ∷ []) (bytes "C,Lamp,on,off\nA,2\nC,Lamp,on,off\n") 2 1 2 1
    ++ tries choice (negsuc 0 ∷ []) (bytes "C,Lamp,on,off\nA,-1\nC,Lamp,on,off\n") 2 1 2 1
    ++ meets choice [] (bytes "C,Lamp,on,off\n") 2 0 1
    ++ meets
    (bytes "inputs,0,q,a,b,c,d,e,f,g,h\n")
    (pos 7 ∷ [])
    (bytes "C,q,a,b,c,d,e,f,g,h\nA,7\n")
    1
    1
    1
    ++ tries
    (bytes "inputs,0,q,a,b,c,d,e,f,g,h\n")
    (pos 8 ∷ [])
    (bytes "C,q,a,b,c,d,e,f,g,h\nA,8\nC,q,a,b,c,d,e,f,g,h\n")
    2
    1
    2
    1
    ++ wrong_choices
    -- answers left over are no fault; what a verdict leaves behind is not met
    ++ meets (bytes "printex,Done\nprint,never\n") (pos 1 ∷ pos 2 ∷ []) (bytes "V,Done\n") 0 0 1
    -- a register keeps its value; another one is 0
    ++ meets
    (bytes "input,3,a\ninput,4,b\nif,3,eq,1\nif,4,eq,2\nif,5,eq,0\nprint,ok\nfi\nfi\nfi\n")
    (pos 1 ∷ pos 2 ∷ pos 9 ∷ [])
    (bytes "Q,a\nA,1\nQ,b\nA,2\nS,ok\n")
    1
    2
    6
    -- leaving two true blocks with an else line, at their ends, is two steps; a verdict, a wait or outcome 3 inside one is no such step
    ++ meets nested (pos 6 ∷ []) (bytes "Q,N\nA,6\nS,big\n") 1 1 8
    ++ meets nested (pos 3 ∷ []) (bytes "Q,N\nA,3\nV,three\n") 0 1 5
    ++ meets nested (pos 4 ∷ []) (bytes "Q,N\nA,4\n") 1 1 7
    ++ meets nested (negsuc 0 ∷ []) (bytes "Q,N\nA,-1\nS,less\n") 1 1 5
    ++ meets (bytes "if,0,eq,0\nprintex,a\nelse\nprint,b\nfi\n") [] (bytes "V,a\n") 0 0 2
    ++ meets (bytes "if,0,eq,0\ninput,0,a\nelse\nprint,b\nfi\n") [] (bytes "Q,a\n") 2 0 2
    ++ tries
    (bytes "if,0,eq,0\ninputs,0,q,a,b\nelse\nprint,b\nfi\n")
    (pos 2 ∷ pos 2 ∷ pos 2 ∷ [])
    (bytes "C,q,a,b\nA,2\nC,q,a,b\nA,2\nC,q,a,b\n")
    3
    2
    4
    3
    -- a buffer just long enough, and one byte less; scratch of 64 and of 63
    ++ fits (walk_call choice [] (pos 0 ∷ [])) (bytes "C,Lamp,on,off\nA,0\n") (ended 18 1 1 2 0)
    ++ fits
    (run_call (bytes_made (translation [] choice)) [] (pos 0 ∷ []) scratch_numbers)
    (bytes "C,Lamp,on,off\nA,0\n")
    (ended 18 1 1 2 0)
    ++ fits (walk_call colour [] (pos 5 ∷ [])) (bytes "C,Col,red,blue\nA,5\nC,Col,red,blue\n") (ended 34 2 1 2 1)
    ++ refuses (run_call (bytes_made (translation [] choice)) [] (pos 0 ∷ []) scratch_numbers) 11 0
    ++ ((run_call (bytes_made (translation [] [])) [] [] 63 (untouched 4) gives (refusal 11 0, untouched 4)) ∷ [])
    ++ ((run_call (bytes_made (translation [] [])) [] [] 64 (untouched 4) gives (ended 0 1 0 0 0, untouched 4)) ∷ [])
