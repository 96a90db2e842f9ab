-- "the steps are now at most the instructions plus two for each inputs"
use Prim.Native.Nat.{ℕ, zero, suc, ◌+◌, ◌≤◌}
use native.Mathlib.Omega.{arith}
use mathlib.Core.Path.{◌≡◌}
use mathlib.Core.List.{List, [], ◌∷◌}
use mathlib.Core.Bool.{cond}
use lib.IntN.{ℤ}
use Rattle.transcript.specs.State.{State, step, start}
use Rattle.transcript.specs.Perform.{Ending, goes_on, verdict, waits, outside, and_then, perform, holds, state_of}
use Rattle.transcript.proofs.Steps.{most_steps, perform-steps}
use Rattle.plate.specs.Program.{Instruction, statement, goto, if_skip}
use Rattle.transcript.specs.Statement.{Statement, input, inputs, print, printex}
use Rattle.running.specs.Run.{run}
use Rattle.running.specs.Steps.{inputs_in, most_steps_of}

-- what follows an ending adds at most n
then-most : (m : Ending) (f : State → Ending) (n : ℕ) → ((s : State) → (state_of (f s)).steps ≤ s.steps + n)
    → (state_of (and_then m f)).steps ≤ (state_of m).steps + n
then-most (goes_on s) f n h = h s
then-most (verdict s) f n h = omega arith
then-most (waits wrong s) f n h = omega arith
then-most (outside s) f n h = omega arith

-- a statement in front
most-first : (x : Statement) (is : List Instruction) → most_steps_of (statement x ∷ is) ≡ most_steps x + most_steps_of is
most-first (input r t) is = omega arith
most-first (inputs r t options) is = omega arith
most-first (print t) is = omega arith
most-first (printex t) is = omega arith

any-more : (i : Instruction) (is : List Instruction) → inputs_in is ≤ inputs_in (i ∷ is)
any-more (statement (input r t)) is = omega arith
any-more (statement (inputs r t options)) is = omega arith
any-more (statement (print t)) is = omega arith
any-more (statement (printex t)) is = omega arith
any-more (goto skip) is = omega arith
any-more (if_skip test skip) is = omega arith

-- from any state on, with k instructions still to be passed over
pub steps-most : (is : List Instruction) (k : ℕ) (s : State) → (state_of (run is k s)).steps ≤ s.steps + most_steps_of is
unfolding run
steps-most [] k s = omega arith
steps-most (i ∷ is) (suc k) s = omega (arith, steps-most is k s, any-more i is)
steps-most (statement x ∷ is) zero s =
    omega (arith, then-most (perform x s) (run is 0) (most_steps_of is) (steps-most is 0), perform-steps x s, most-first x is)
steps-most (goto skip ∷ is) zero s = omega (arith, steps-most is skip (step s))
steps-most (if_skip test skip ∷ is) zero s = omega (arith, steps-most is (cond (holds test s) 0 skip) (step s))

pub run-steps : (is : List Instruction) (answers : List ℤ) → (state_of (run is 0 (start answers))).steps ≤ most_steps_of is
unfolding start
run-steps is answers = omega (arith, steps-most is 0 (start answers))
