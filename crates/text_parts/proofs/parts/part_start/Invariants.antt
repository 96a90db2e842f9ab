-- `part_start` meets its contract: the parts from k on are those from a on without as many as are not yet passed.
use Rattle.std.proofs.Common.{◌≡◌, ◌+◌, ◌-◌, ◌≤◌, length, drop}
use Rattle.text.specs.Parts.{split, parts_from}
use Rattle.text_parts.proofs.parts.part_start.Given as goal

abbrev pub invariant-loop-passed : goal.invariant-loop-passed
invariant-loop-passed l = (drop l.k (split l.x l.s) ≡ drop (l.k - l.passed) (parts_from l.x l.a l.s)) × (l.a ≤ length l.s + 1)
