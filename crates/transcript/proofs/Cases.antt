-- Worked by hand: each OP below, at and above its constant with both signs; each transcript line; what each
-- statement does; the register that a test looks at.
use Prim.Native.Nat.{ℕ}
use mathlib.Core.Path.{◌≡◌, refl}
use mathlib.Core.List.{List, [], ◌∷◌, map}
use mathlib.Core.Bool.{Bool, true, false}
use lib.ListN.{set, replicate}
use lib.IntN.{ℤ, pos, negsuc}
use Rattle.text.specs.Quoted.{bytes}
use Rattle.text.specs.Parts.{join}
use Rattle.decimals.specs.Number.{digits, decimal}
use Rattle.transcript.specs.declared.Test.{Test}
use Rattle.transcript.specs.declared.Op.{Op}
use Rattle.transcript.specs.declared.Op.TheVariants.{Eq, Ne, Lt, Le, Gt, Ge}
use Rattle.transcript.specs.Statement.{input, inputs, print, printex, compares}
use Rattle.transcript.specs.State.{
  TranscriptLine,
  asked,
  offered,
  answered,
  shown,
  ruled,
  State,
  start,
  line_bytes,
  transcript_bytes,
}
use Rattle.transcript.specs.Perform.{Ending, goes_on, verdict, waits, outside, choose, perform, holds}

-- whether each OP, eq to ge, holds
abbrev verdicts : ℤ → ℤ → List Bool
verdicts value c = map (λ (op : Op). compares op value c) (Eq ∷ Ne ∷ Lt ∷ Le ∷ Gt ∷ Ge ∷ [])

abbrev below : List Bool
below = false ∷ true ∷ true ∷ true ∷ false ∷ false ∷ []

abbrev at : List Bool
at = true ∷ false ∷ false ∷ true ∷ false ∷ true ∷ []

abbrev above : List Bool
above = false ∷ true ∷ false ∷ false ∷ true ∷ true ∷ []

pub operators :
    verdicts (pos 6) (pos 7)
    ∷ verdicts (pos 7) (pos 7)
    ∷ verdicts (pos 8) (pos 7)
    ∷ verdicts (negsuc 7) (negsuc 6)
    ∷ verdicts (negsuc 6) (negsuc 6)
    ∷ verdicts (negsuc 5) (negsuc 6)
    ∷ verdicts (negsuc 6) (pos 7)
    ∷ verdicts (pos 7) (negsuc 6)
    ∷ verdicts (negsuc 2147483647) (pos 2147483647)
    ∷ []
    ≡ below ∷ at ∷ above ∷ below ∷ at ∷ above ∷ below ∷ above ∷ below ∷ []
operators = refl

pub letters :
    transcript_bytes
    (asked (bytes "T")
    ∷ offered (bytes "T") (bytes "a" ∷ bytes "b" ∷ [])
    ∷ answered (pos 90)
    ∷ answered (negsuc 6)
    ∷ shown (bytes "T")
    ∷ ruled (bytes "T")
    ∷ [])
    ≡ bytes "Q,T\nC,T,a,b\nA,90\nA,-7\nS,T\nV,T\n"
unfolding transcript_bytes line_bytes join decimal digits
letters = refl

-- a state after so many steps
abbrev after : List ℤ → List ℤ → ℕ → ℕ → List TranscriptLine → State
after registers left taken steps transcript =
    record { registers = registers; left = left; taken = taken; steps = steps; transcript = transcript }

abbrev zeros : List ℤ
zeros = replicate 32 (pos 0)

-- what each statement does to a state at the start
pub statements :
    perform (input 3 (bytes "T")) (start (pos 5 ∷ pos 6 ∷ []))
    ∷ perform (input 3 (bytes "T")) (start [])
    ∷ perform (print (bytes "T")) (start (pos 5 ∷ []))
    ∷ perform (printex (bytes "T")) (start (pos 5 ∷ []))
    ∷ []
    ≡ goes_on (after (set zeros 3 (pos 5)) (pos 6 ∷ []) 1 1 (asked (bytes "T") ∷ answered (pos 5) ∷ []))
    ∷ waits 0 (after zeros [] 0 1 (asked (bytes "T") ∷ []))
    ∷ goes_on (after zeros (pos 5 ∷ []) 0 1 (shown (bytes "T") ∷ []))
    ∷ verdict (after zeros (pos 5 ∷ []) 0 1 (ruled (bytes "T") ∷ []))
    ∷ []
unfolding perform start
statements = refl

-- what is left of `inputs,3,T,a,b`, with these answers
abbrev chosen : List ℤ → Ending
chosen answers = perform (inputs 3 (bytes "T") (bytes "a" ∷ bytes "b" ∷ [])) (start answers)

abbrev C : TranscriptLine
C = offered (bytes "T") (bytes "a" ∷ bytes "b" ∷ [])

-- the last option's place, one past it, one below 0; one, two and three wrong answers; the third one is not taken
pub choices :
    chosen []
    ∷ chosen (pos 1 ∷ pos 9 ∷ [])
    ∷ chosen (pos 2 ∷ [])
    ∷ chosen (negsuc 0 ∷ pos 0 ∷ [])
    ∷ chosen (pos 5 ∷ pos 6 ∷ [])
    ∷ chosen (pos 5 ∷ pos 6 ∷ pos 1 ∷ [])
    ∷ chosen (pos 5 ∷ pos 6 ∷ pos 7 ∷ pos 1 ∷ [])
    ∷ []
    ≡ waits 0 (after zeros [] 0 1 (C ∷ []))
    ∷ goes_on (after (set zeros 3 (pos 1)) (pos 9 ∷ []) 1 1 (C ∷ answered (pos 1) ∷ []))
    ∷ waits 1 (after zeros [] 1 2 (C ∷ answered (pos 2) ∷ C ∷ []))
    ∷ goes_on (after (set zeros 3 (pos 0)) [] 2 2 (C ∷ answered (negsuc 0) ∷ C ∷ answered (pos 0) ∷ []))
    ∷ waits 2 (after zeros [] 2 3 (C ∷ answered (pos 5) ∷ C ∷ answered (pos 6) ∷ C ∷ []))
    ∷ goes_on (after (set zeros 3 (pos 1)) [] 3 3 (C ∷ answered (pos 5) ∷ C ∷ answered (pos 6) ∷ C ∷ answered (pos 1) ∷ []))
    ∷ outside (after zeros (pos 7 ∷ pos 1 ∷ []) 2 3 (C ∷ answered (pos 5) ∷ C ∷ answered (pos 6) ∷ C ∷ []))
    ∷ []
unfolding perform choose start
choices = refl

-- whether register r has the value 5, as an if tests it
abbrev five_in : ℕ → Test
five_in r = record { register = r; op = Eq; constant = pos 5 }

-- with 5 in register 3
pub tests : map (λ (r : ℕ). holds (five_in r) (after (set zeros 3 (pos 5)) [] 1 1 [])) (0 ∷ 3 ∷ 4 ∷ []) ≡ false ∷ true ∷ false ∷ []
unfolding holds
tests = refl
