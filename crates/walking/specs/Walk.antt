-- Document 01, "Walk": "The walk is defined on these blocks, with no use of translation, listing or plate."
use Rattle.std.specs.Prelude.{true, false}
use Rattle.transcript.specs.State.{State, step}
use Rattle.transcript.specs.Perform.{Ending, goes_on, and_then, perform, holds}
use Rattle.guide.specs.Block.{Block, empty, does, if_then, if_else}

-- "leaving a true block at its end, and not by a verdict, a wait or outcome 3 inside it, when that if has an `else` line, even an
-- empty one" is one step
abbrev pub leave : State → Ending
leave s = goes_on (step s)

-- "A block runs its statements in order, and an if statement runs one of its two blocks"; each if met is one step
unfoldable pub walk : Block → State → Ending
walk empty s = goes_on s
walk (does x rest) s = and_then (perform x s) (walk rest)
walk (if_then test t rest) s =
    and_then (elim (holds test s) [ true ↦ walk t (step s) | false ↦ goes_on (step s) ]) (walk rest)
walk (if_else test t e rest) s =
    and_then (elim (holds test s) [ true ↦ and_then (walk t (step s)) leave | false ↦ walk e (step s) ]) (walk rest)
