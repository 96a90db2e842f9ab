-- `pass_over` meets its contract: what is left to pass from `at` on, with `depth` ifs open, is what was to pass from a on.
use Prim.Native.Nat.{◌≤◌, ◌-◌}
use mathlib.Core.Path.{◌≡◌}
use lib.ListN.{length, drop}
use Rattle.lines.specs.declared.Form.TheVariants.{Guide as a_guide}
use Rattle.lines.specs.Clean.{Clean}
use Rattle.guide.specs.Lines.{lines_at, pass}
use Rattle.guide.proofs.places.pass_over.Given as goal

abbrev pub invariant-loop-h : goal.invariant-loop-h
invariant-loop-h l = (pass 0 (lines_at l.guide l.a) ≡ pass l.depth (lines_at l.guide l.at)) × (l.a ≤ l.at) × (l.at ≤ length l.guide) × (l.depth ≤ l.at) × Clean a_guide (drop l.at l.guide)

abbrev pub decreases-loop-h : goal.decreases-loop-h
decreases-loop-h l = length l.guide - l.at
