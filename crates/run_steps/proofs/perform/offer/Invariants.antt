-- `offer` meets its contract: at each turn of the loop what is left to do is the question with so many wrong answers.
use Prim.Native.Nat.{◌+◌, ◌-◌, ◌≤◌}
use mathlib.Core.Path.{◌≡◌}
use lib.ListN.{length}
use Rattle.transcript.specs.Machine.{machine_state, laid}
use Rattle.transcript.proofs.Tries.{question}
use Rattle.run_steps.specs.Lines.{inputs_at, question_of, options_of}
use Rattle.run_steps.proofs.perform.offer.Given as goal

abbrev pub invariant-loop-t : goal.invariant-loop-t
invariant-loop-t l = let i = inputs_at l.plate l.known l.register l.bit in
    (l.wrong ≤ 2)
    × (l.n.steps ≡ l.initial.n.steps + l.wrong)
    × (length l.out ≡ length l.initial.out)
    × (laid l.end (question l.register (question_of i) (options_of i) l.wrong (machine_state l.registers l.answers l.n)) l.out
    ≡ laid l.initial.end (question l.register (question_of i) (options_of i) 0 (machine_state l.initial.registers l.answers l.initial.n)) l.initial.out)

abbrev pub decreases-loop-t : goal.decreases-loop-t
decreases-loop-t l = 3 - l.wrong
