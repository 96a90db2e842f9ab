-- `offer` meets its contract: at each turn of the loop what is left to do is the question with so many wrong answers.
use Prim.Native.Nat.{◌+◌, ◌-◌, ◌≤◌}
use mathlib.Core.Path.{◌≡◌}
use mathlib.Core.List.{[]}
use lib.ListN.{length, drop, get_or}
use Rattle.text.specs.Parts.{split, comma}
use Rattle.transcript.specs.Machine.{machine_state, laid}
use Rattle.transcript.proofs.Tries.{question}
use Rattle.walk_blocks.proofs.perform.offer.Given as goal

abbrev pub invariant-loop-end : goal.invariant-loop-end
invariant-loop-end l = let t = get_or (split comma l.line) 2 [] in
    let os = drop 3 (split comma l.line) in
    (l.wrong ≤ 2)
    × (l.n.steps ≡ l.initial.n.steps + l.wrong)
    × (length l.out ≡ length l.initial.out)
    × (laid l.end (question l.register t os l.wrong (machine_state l.registers l.answers l.n)) l.out
    ≡ laid l.initial.end (question l.register t os 0 (machine_state l.initial.registers l.answers l.initial.n)) l.initial.out)

abbrev pub decreases-loop-end : goal.decreases-loop-end
decreases-loop-end l = 3 - l.wrong
