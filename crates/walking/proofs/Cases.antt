-- Worked by hand: the walks of cases (c), (d), (e) and (f), and of ifs within ifs, with their steps.
use mathlib.Core.Path.{◌≡◌, refl}
use mathlib.Core.List.{List, [], ◌∷◌}
use lib.IntN.{ℤ, pos, negsuc}
use Rattle.causes.specs.Answers.{Output, ended}
use Rattle.text.specs.Quoted.{bytes}
use Rattle.text.specs.Parts.{join}
use Rattle.decimals.specs.Number.{digits, decimal}
use Rattle.transcript.specs.declared.Op.{Op}
use Rattle.transcript.specs.declared.Op.TheVariants.{Eq, Lt, Ge}
use Rattle.transcript.specs.Statement.{input, inputs, print, printex}
use Rattle.transcript.specs.declared.Test.{Test}
use Rattle.transcript.specs.State.{start, line_bytes, transcript_bytes}
use Rattle.transcript.specs.Perform.{choose, perform, holds, report}
use Rattle.guide.specs.Block.{Block, empty, does, if_then, if_else}
use Rattle.walking.specs.Walk.{walk}

abbrev test : Op → ℤ → Test
test op c = record { register = 0; op = op; constant = c }

abbrev reported : Block → List ℤ → Output
reported b answers = report (walk b (start answers))

-- (b)
abbrev block_b : Block
block_b =
    does (input 0 (bytes "Volts"))
    (if_else (test Lt (pos 100)) (does (printex (bytes "Fuse")) empty) empty (does (print (bytes "OK")) empty))

-- (f)
abbrev block_f : Block
block_f = if_else (test Eq (pos 0)) (does (print (bytes "a")) empty) empty (does (print (bytes "b")) empty)

-- a true block within a true block, each with an `else` line; then an if without one
abbrev within : Block
within =
    if_else
    (test Ge (pos 0))
    (if_else (test Ge (pos 0)) (does (print (bytes "a")) empty) (does (print (bytes "b")) empty) empty)
    (does (print (bytes "c")) empty)
    (if_then (test Lt (pos 0)) (does (print (bytes "d")) empty) empty)

-- `inputs,3,Col,red,blue`
abbrev colour : Block
colour = does (inputs 3 (bytes "Col") (bytes "red" ∷ bytes "blue" ∷ [])) empty

pub walks :
    reported block_b (pos 90 ∷ [])
    ∷ reported block_b (pos 100 ∷ [])
    ∷ reported block_b []
    ∷ reported block_f []
    ∷ reported within []
    ∷ reported (does (input 0 (bytes "q")) within) (negsuc 0 ∷ [])
    ∷ reported empty (pos 1 ∷ [])
    ∷ reported colour (pos 5 ∷ [])
    ∷ reported colour (pos 5 ∷ pos 6 ∷ [])
    ∷ reported colour (pos 5 ∷ pos 6 ∷ pos 7 ∷ [])
    ∷ reported colour (pos 5 ∷ pos 6 ∷ pos 1 ∷ [])
    ∷ []
    ≡ record { bytes = bytes "Q,Volts\nA,90\nV,Fuse\n"; answer = ended 20 0 1 3 0 }
    ∷ record { bytes = bytes "Q,Volts\nA,100\nS,OK\n"; answer = ended 19 1 1 3 0 }
    ∷ record { bytes = bytes "Q,Volts\n"; answer = ended 8 2 0 1 0 }
    ∷ record { bytes = bytes "S,a\nS,b\n"; answer = ended 8 1 0 4 0 }
    ∷ record { bytes = bytes "S,a\n"; answer = ended 4 1 0 6 0 }
    ∷ record { bytes = bytes "Q,q\nA,-1\nS,c\nS,d\n"; answer = ended 17 1 1 5 0 }
    ∷ record { bytes = []; answer = ended 0 1 0 0 0 }
    ∷ record { bytes = bytes "C,Col,red,blue\nA,5\nC,Col,red,blue\n"; answer = ended 34 2 1 2 1 }
    ∷ record { bytes = bytes "C,Col,red,blue\nA,5\nC,Col,red,blue\nA,6\nC,Col,red,blue\n"; answer = ended 53 2 2 3 2 }
    ∷ record { bytes = bytes "C,Col,red,blue\nA,5\nC,Col,red,blue\nA,6\nC,Col,red,blue\n"; answer = ended 53 3 2 3 3 }
    ∷ record { bytes = bytes "C,Col,red,blue\nA,5\nC,Col,red,blue\nA,6\nC,Col,red,blue\nA,1\n"; answer = ended 57 1 3 3 0 }
    ∷ []
unfolding walk perform choose holds report start transcript_bytes line_bytes join decimal digits
walks = refl
