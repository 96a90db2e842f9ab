-- Worked by hand: the instructions of cases (b) and (f), and of ifs within ifs, with their skips.
use mathlib.Core.Path.{◌≡◌, refl}
use mathlib.Core.List.{[], ◌∷◌}
use lib.IntN.{ℤ, pos}
use Rattle.text.specs.Quoted.{bytes}
use Rattle.transcript.specs.declared.Op.{Op}
use Rattle.transcript.specs.declared.Op.TheVariants.{Eq, Lt, Ge}
use Rattle.transcript.specs.Statement.{input, print, printex}
use Rattle.transcript.specs.declared.Test.{Test}
use Rattle.guide.specs.Block.{Block, empty, does, if_then, if_else}
use Rattle.plate.specs.Program.{statement, goto, if_skip}
use Rattle.translating.specs.Translation.{translate_block}

abbrev test : Op → ℤ → Test
test op c = record { register = 0; op = op; constant = c }

-- (b)
abbrev block_b : Block
block_b =
    does (input 0 (bytes "Volts"))
    (if_else (test Lt (pos 100)) (does (printex (bytes "Fuse")) empty) empty (does (print (bytes "OK")) empty))

-- (f)
abbrev block_f : Block
block_f = if_else (test Eq (pos 0)) (does (print (bytes "a")) empty) empty (does (print (bytes "b")) empty)

-- a true block within a true block, each with an `else` line; then an if without one
abbrev within : Block
within =
    if_else
    (test Ge (pos 0))
    (if_else (test Ge (pos 0)) (does (print (bytes "a")) empty) (does (print (bytes "b")) empty) empty)
    (does (print (bytes "c")) (does (print (bytes "c")) empty))
    (if_then (test Lt (pos 0)) (does (print (bytes "d")) empty) empty)

pub instructions :
    translate_block block_b ∷ translate_block block_f ∷ translate_block within ∷ translate_block empty ∷ []
    ≡ (statement (input 0 (bytes "Volts"))
    ∷ if_skip (test Lt (pos 100)) 2
    ∷ statement (printex (bytes "Fuse"))
    ∷ goto 0
    ∷ statement (print (bytes "OK"))
    ∷ [])
    ∷ (if_skip (test Eq (pos 0)) 2
    ∷ statement (print (bytes "a"))
    ∷ goto 0
    ∷ statement (print (bytes "b"))
    ∷ [])
    ∷ (if_skip (test Ge (pos 0)) 5
    ∷ if_skip (test Ge (pos 0)) 2
    ∷ statement (print (bytes "a"))
    ∷ goto 1
    ∷ statement (print (bytes "b"))
    ∷ goto 2
    ∷ statement (print (bytes "c"))
    ∷ statement (print (bytes "c"))
    ∷ if_skip (test Lt (pos 0)) 1
    ∷ statement (print (bytes "d"))
    ∷ [])
    ∷ []
    ∷ []
unfolding translate_block
instructions = refl
