-- The measure of `block`, `statement`, `true_block` and `no_block` is the number of unread lines, three times.
use Prim.Native.Nat.{◌*◌, ◌+◌, ◌≤◌}
use mathlib.Core.Path.{◌≡◌}
use lib.ListN.{length, drop}
use Rattle.lines.specs.declared.Form.TheVariants.{Guide as a_guide}
use Rattle.lines.specs.Clean.{Clean}
use Rattle.transcript.specs.Machine.{machine_state}
use Rattle.guide.specs.Lines.{lines_at}
use Rattle.walk_blocks.specs.Leaves.{StepsFit}
use Rattle.walk_blocks.proofs.Cycle.{Rest}
use Rattle.walk_blocks.proofs.blocks.+block_no_block_statement_true_block.Given as goal

abbrev pub decreases-block : goal.decreases-block
decreases-block l = 3 * length (lines_at l.guide.now l.a)

abbrev pub decreases-no_block : goal.decreases-no_block
decreases-no_block l = 3 * length (lines_at l.guide.now l.a) + 1

abbrev pub decreases-statement : goal.decreases-statement
decreases-statement l = 3 * length (lines_at l.guide.now l.h.next) + 2

abbrev pub decreases-true_block : goal.decreases-true_block
decreases-true_block l = 3 * length (lines_at l.guide.now l.a) + 1

abbrev pub invariant-block-loop-h : goal.invariant-block-loop-h
invariant-block-loop-h l =
    Rest l.guide l.answers l.place (machine_state l.registers l.answers l.m) l.end l.out l.a (machine_state l.initial.registers l.answers l.initial.m) l.at l.initial.out
    × (l.place ≤ length l.guide)
    × StepsFit l.guide l.place l.m.steps
    × (length (lines_at l.guide l.place) ≤ length (lines_at l.guide l.a))
    × (length l.out ≡ length l.initial.out)
    × Clean a_guide (drop l.place l.guide)

abbrev pub decreases-block-loop-h : goal.decreases-block-loop-h
decreases-block-loop-h l = length (lines_at l.guide l.place)
