-- A whole plate in the two parts in which the code reads it: the own phrases (Own.antt), and what follows them.
use Rattle.std.specs.Prelude.{leb}
use Rattle.causes.specs.Limits.{most_instructions}
use Rattle.causes.specs.declared.Cause.TheVariants.{Unused}
use Rattle.phrases.specs.Phrases.{Phrases}
use Rattle.plate.specs.Program.{Program}
use Rattle.plate.specs.Reading.{Reader, number, judged, return, ◌>>=◌, many}
use Rattle.plate.specs.Plate.{instruction, filling}

-- "Then 10 bits: the instruction count n. Then n instructions"; "n over 512": 13
unfoldable pub behind_own : Phrases → Reader Program
behind_own c = do
  n ← judged (number 10) (λ n. leb n most_instructions) Unused
  is ← many (instruction c) n
  return (record { own = c.own; instructions = is })

-- with the filling behind them
unfoldable pub rest_of : Phrases → Reader Program
rest_of c = do
  p ← behind_own c
  filling p
