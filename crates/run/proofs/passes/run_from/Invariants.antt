-- `run_from` meets its contract. The loop: the run of the instructions that are left, behind what is written, is the whole run.
use Prim.Native.Nat.{◌+◌, ◌*◌, ◌≤◌}
use mathlib.Core.Path.{◌≡◌}
use lib.ListN.{length}
use Rattle.causes.specs.declared.Outcome.TheVariants.{End}
use Rattle.transcript.specs.Machine.{machine_state, laid}
use Rattle.reader.specs.Holding.{instructions_at}
use Rattle.running.specs.Run.{run}
use Rattle.run.specs.Accepted.{Continues}
use Rattle.run.proofs.passes.run_from.Given as goal

abbrev pub invariant-loop-left : goal.invariant-loop-left
invariant-loop-left l = Continues l.plate l.known l.left l.bit × (laid l.p.end (run (instructions_at l.plate l.known l.left l.bit) l.over (machine_state l.registers l.answers l.p.machine)) l.out ≡ laid l.initial.p.end (run (instructions_at l.plate l.known l.n l.from) 0 (machine_state l.initial.registers l.answers l.initial.p.machine)) l.initial.out) × (l.p.outcome ≡ End) × (l.p.machine.steps + 3 * l.left ≤ 18446744073709551615) × (l.p.end ≤ 18446744073709551615) × (length l.out ≡ length l.initial.out)
