-- Demand 3: "it waits exactly when the walk writes a question's line and finds no answer left for it".
use mathlib.Core.Path.{◌≡◌, refl}
use mathlib.Core.Logic.{◌↔◌}
use mathlib.Core.List.{List}
use mathlib.Core.Bool.{Bool, true, false}
use lib.IntN.{ℤ}
use Rattle.causes.specs.Causes.{outcome_number}
use Rattle.transcript.specs.State.{State, step, start}
use Rattle.transcript.specs.Perform.{Ending, goes_on, and_then, perform, holds, state_of, outcome_of}
use Rattle.transcript.specs.Waiting.{ends_asking, Unanswered}
use Rattle.transcript.proofs.Waiting.{Told, perform-told, then-told, told-waits}
use Rattle.guide.specs.Block.{Block, empty, does, if_then, if_else}
use Rattle.walking.specs.Walk.{walk, leave}

either-told : (v : Bool) (m n : Ending) → Told m → Told n → Told (elim v [ true ↦ m | false ↦ n ])
either-told true m n h k = h
either-told false m n h k = k

pub walk-told : (b : Block) (s : State) → ends_asking s.transcript ≡ false → Told (walk b s)
unfolding walk
walk-told empty s h = h
walk-told (does x b) s h = then-told (perform x s) (walk b) (perform-told x s) (walk-told b)
walk-told (if_then test t b) s h =
    then-told (elim (holds test s) [ true ↦ walk t (step s) | false ↦ goes_on (step s) ]) (walk b)
    (either-told (holds test s) (walk t (step s)) (goes_on (step s)) (walk-told t (step s) h) h)
    (walk-told b)
walk-told (if_else test t e b) s h =
    then-told (elim (holds test s) [ true ↦ and_then (walk t (step s)) leave | false ↦ walk e (step s) ]) (walk b)
    (either-told (holds test s) (and_then (walk t (step s)) leave) (walk e (step s))
    (then-told (walk t (step s)) leave (walk-told t (step s) h) (λ u k. k))
    (walk-told e (step s) h))
    (walk-told b)

pub walk-waits : (b : Block) (answers : List ℤ)
    → (outcome_number (outcome_of (walk b (start answers))) ≡ 2) ↔ Unanswered (state_of (walk b (start answers)))
unfolding start ends_asking
walk-waits b answers = told-waits (walk b (start answers)) (walk-told b (start answers) refl)
