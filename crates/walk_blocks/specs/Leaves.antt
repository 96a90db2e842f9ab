-- What the code answers for a block, beside what the walk over its lines says.
use Rattle.std.specs.Prelude.{ℕ, ◌+◌, ◌*◌, ◌≤◌, ◌≡◌, List, length, drop, ℤ}
use Rattle.causes.specs.declared.Outcome.TheVariants.{End}
use Rattle.transcript.specs.Machine.{laid, performed}
use Rattle.lines.specs.declared.Form.TheVariants.{Guide as a_guide}
use Rattle.lines.specs.Clean.{Clean}
use Rattle.guide.specs.Lines.{lines_at}
use Rattle.walk_blocks.specs.declared.Walked.{Walked}
use Rattle.walk_blocks.specs.Descend.{Left}

-- The code has answered w and left the registers and the buffer `new`: as the walk v does whose transcript is written from `at` on into `old`.
pub record Leaves (g : List ℕ) (answers : List ℤ) (w : Walked) (registers : List ℤ) (new : List ℕ) (at : ℕ) (v : Left) (old : List ℕ)
    : Type 0 where
  pub left : performed registers answers w.left new ≡ laid at v.ending old
  pub lines : w.left.outcome ≡ End → lines_at g w.place ≡ v.lines

-- the same of each walk f n, where n is no less than the lines from the place a on
abbrev pub LeavesFrom : List ℕ → ℕ → List ℤ → Walked → List ℤ → List ℕ → ℕ → (ℕ → Left) → List ℕ → Type 0
LeavesFrom g a answers w registers new at f old = (n : ℕ) → length (lines_at g a) ≤ n → Leaves g answers w registers new at (f n) old

-- the steps, with three more for each line from the place a on, fit a 64-bit number
abbrev pub StepsFit : List ℕ → ℕ → ℕ → Type 0
StepsFit g a steps = steps + 3 * length (lines_at g a) ≤ 18446744073709551615

-- the steps fit, no more lines are left than from the place a on, and none of them is a fault
pub record Paced (g : List ℕ) (a : ℕ) (w : Walked) : Type 0 where
  pub steps : StepsFit g w.place w.left.machine.steps
  pub lines : length (lines_at g w.place) ≤ length (lines_at g a)
  pub within : w.place ≤ length g
  pub clean : Clean a_guide (drop w.place g)
