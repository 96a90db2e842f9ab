-- Blocks counted on their lines, as the code goes: a block is a statement, and then the rest of the block.
use Rattle.std.specs.Prelude.{ℕ, zero, suc, ◌+◌, ◌≤◌, ◌≡◌, List, [], ◌∷◌, ◌++◌, Bool, true, false, length, drop, replicate}
use Rattle.causes.specs.Limits.{most_instructions}
use Rattle.output.specs.Pour.{pour}
use Rattle.lines.specs.declared.Form.TheVariants.{Guide as a_guide}
use Rattle.lines.specs.Clean.{Clean}
use Rattle.lines.specs.Line.{Line}
use Rattle.guide.specs.declared.Role.{Role}
use Rattle.guide.specs.declared.Role.TheVariants.{Statement, If, Else, Fi, Nothing}
use Rattle.guide.specs.Lines.{first_role, begins_by, else_by, lines_at}
use Rattle.translate.specs.declared.lengths.Length.{Length}

-- the skips of the instructions of a block or a statement, a number for each, which is 0 for a statement's; and the lines behind it: a
-- block's own `else` or `fi` is the first of them
pub record Extent : Type 0 where
  pub skips : List ℕ
  pub lines : List Line

-- counts a block
abbrev pub Counter : Type 0
Counter = List Line → Extent

-- with these skips before it
abbrev pub behind : List ℕ → Extent → Extent
behind ks x = record { skips = ks ++ x.skips; lines = x.lines }

-- a statement, and then what f counts behind it
abbrev pub and_then : Extent → Counter → Extent
and_then x f = behind x.skips (f x.lines)

-- 1 where there is an `else` line
abbrev pub one_if : Bool → ℕ
one_if true = 1
one_if false = 0

-- whether these lines begin with an `else`
abbrev pub at_else : List Line → Bool
at_else ls = else_by (first_role ls)

-- a line that opens an if
abbrev pub if_by : Role → Bool
if_by Statement = false
if_by If = true
if_by Else = false
if_by Fi = false
if_by Nothing = false

-- "the true block's instructions, plus one if there is an `else` line"
unfoldable pub skip_over : Extent → ℕ
skip_over t = length t.skips + one_if (at_else t.lines)

-- "a goto whose skip is the else block's instructions", and that block
abbrev pub goto_over : Extent → List ℕ
goto_over o = length o.skips ∷ o.skips

-- an if whose true block is t: with an `else` line, its else block too, which f counts
abbrev pub if_with : Bool → Counter → Extent → Extent
if_with true f t = record { skips = skip_over t ∷ (t.skips ++ goto_over (f (drop 1 t.lines))); lines = drop 1 (f (drop 1 t.lines)).lines }
if_with false f t = record { skips = skip_over t ∷ t.skips; lines = drop 1 t.lines }

-- the statement or the if whose line has been read; true: it is an if
unfoldable pub statement_length : Bool → Counter → Counter
statement_length true f ls = if_with (at_else (f ls).lines) f (f ls)
statement_length false f ls = record { skips = 0 ∷ []; lines = ls }

-- true: a statement begins here
unfoldable pub block_with : Bool → Counter → Counter
block_with true f ls = and_then (statement_length (if_by (first_role ls)) f (drop 1 ls)) f
block_with false f ls = record { skips = []; lines = ls }

-- n is no less than the lines
unfoldable pub block_length : ℕ → Counter
block_length zero ls = record { skips = []; lines = ls }
block_length (suc n) ls = block_with (begins_by (first_role ls)) (block_length n) ls

-- the table of skips: 512 numbers, and from the first on those of the guide's instructions
unfoldable pub skip_table : List ℕ → List ℕ
skip_table g = pour 0 (block_length (length (lines_at g 0)) (lines_at g 0)).skips (replicate most_instructions 0)

-- ---- what the code answers, and what it leaves in the table of skips

-- r is what x is, the lines by their place in the guide's text; the table had the numbers `old`, and in `new` the skips of x stand from the
-- entry `first` on
pub record Counts (g : List ℕ) (first : ℕ) (old : List ℕ) (r : Length) (x : Extent) (new : List ℕ) : Type 0 where
  pub instructions : r.instructions ≡ length x.skips
  pub lines : lines_at g r.end ≡ x.lines
  pub table : new ≡ pour first x.skips old

-- the same of each f n, where n is no less than the lines from the place a on
abbrev pub CountsFrom : List ℕ → ℕ → ℕ → List ℕ → Length → (ℕ → Extent) → List ℕ → Type 0
CountsFrom g a first old r f new = (n : ℕ) → length (lines_at g a) ≤ n → Counts g first old r (f n) new

-- of n lines, no more instructions than lines passed, and none of those left a fault
pub record Passed (g : List ℕ) (n : ℕ) (r : Length) : Type 0 where
  pub few : r.instructions + length (lines_at g r.end) ≤ n
  pub within : r.end ≤ length g
  pub clean : Clean a_guide (drop r.end g)
