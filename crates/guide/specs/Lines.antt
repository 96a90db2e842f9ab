-- Blocks where they stand: their lines from a place of the guide's text on, and what the code reads of them.
use Rattle.std.specs.Prelude.{ℕ, zero, suc, ◌-◌, ◌≤◌, ◌<◌, ◌≡◌, List, [], ◌∷◌, Bool, true, false, length, take, drop, Option, None, Some, Ok}
use Rattle.lines.specs.declared.Form.TheVariants.{Guide as a_guide}
use Rattle.lines.specs.declared.Head.{Head}
use Rattle.lines.specs.declared.Head.TheVariants as head
use Rattle.lines.specs.Line.{Line, phrase, says, if_line, else_line, fi_line, goto_line, if_skip_line, faulty, line_of}
use Rattle.lines.specs.Check.{lines_of}
use Rattle.lines.specs.Answers.{head_of}
use Rattle.lines.specs.declared.Kind.{Kind}
use Rattle.lines.specs.declared.Kind.TheVariants as kind
use Rattle.lines.specs.Clean.{Clean}
use Rattle.guide.specs.declared.Role.{Role}
use Rattle.guide.specs.declared.Role.TheVariants.{Statement, If, Else, Fi, Nothing}
use Rattle.guide.specs.declared.Here.{Here}

-- what a line is in a block
abbrev pub role_of : Line → Role
role_of (phrase t) = Nothing
role_of (says x) = Statement
role_of (if_line test) = If
role_of else_line = Else
role_of fi_line = Fi
role_of (goto_line k) = Nothing
role_of (if_skip_line test k) = Nothing
role_of (faulty c) = Nothing

-- the same, without the line's texts
abbrev pub role_by : Head → Role
role_by head.Phrase = Nothing
role_by (head.Input r) = Statement
role_by (head.Inputs r n) = Statement
role_by head.Print = Statement
role_by head.Printex = Statement
role_by (head.If test) = If
role_by head.Else = Else
role_by head.Fi = Fi
role_by (head.Goto k) = Nothing
role_by (head.IfSkip test k) = Nothing

-- the same, by the kind of a line that is no fault
abbrev pub role_by_kind : Kind → Role
role_by_kind kind.Phrase = Nothing
role_by_kind kind.Input = Statement
role_by_kind kind.Inputs = Statement
role_by_kind kind.Print = Statement
role_by_kind kind.Printex = Statement
role_by_kind kind.If = If
role_by_kind kind.Else = Else
role_by_kind kind.Fi = Fi
role_by_kind kind.Goto = Nothing

-- a statement or an if, which begins here
abbrev pub begins_by : Role → Bool
begins_by Statement = true
begins_by If = true
begins_by Else = false
begins_by Fi = false
begins_by Nothing = false

abbrev pub else_by : Role → Bool
else_by Statement = false
else_by If = false
else_by Else = true
else_by Fi = false
else_by Nothing = false

-- the lines from the place a on
unfoldable pub lines_at : List ℕ → ℕ → List Line
lines_at g a = lines_of a_guide (drop a g)

-- the role of the first line
abbrev pub first_role : List Line → Role
first_role [] = Nothing
first_role (l ∷ ls) = role_of l

-- ---- a block passed over

-- a block ends at this line, where d inner ifs are open
abbrev pub stops : Role → ℕ → Bool
stops Statement d = false
stops If d = false
stops Else zero = true
stops Else (suc d) = false
stops Fi zero = true
stops Fi (suc d) = false
stops Nothing d = true

-- how many inner ifs are open behind this line
abbrev pub open_behind : Role → ℕ → ℕ
open_behind Statement d = d
open_behind If d = suc d
open_behind Else d = d
open_behind Fi zero = zero
open_behind Fi (suc d) = d
open_behind Nothing d = d

-- the lines from the end of a block on, where d inner ifs are open
unfoldable pub pass : ℕ → List Line → List Line
pass d [] = []
pass d (l ∷ ls) = elim (stops (role_of l) d) [ true ↦ l ∷ ls | false ↦ pass (open_behind (role_of l) d) ls ]

-- ---- what the code reads

-- the bytes of a line
abbrev pub line_text : List ℕ → Here → List ℕ
line_text g h = take (h.end - h.start) (drop h.start g)

-- h is a line of the guide
pub record Stands (g : List ℕ) (h : Here) : Type 0 where
  pub head : Ok h.head ≡ head_of (line_of a_guide (line_text g h))
  pub role : h.role ≡ role_of (line_of a_guide (line_text g h))
  pub from : h.start ≤ h.end
  pub to : h.end ≤ length g
  pub within : h.next ≤ length g

-- h is the line at the place a
pub record First (g : List ℕ) (a : ℕ) (h : Here) : Type 0 where
  pub lines : lines_at g a ≡ line_of a_guide (line_text g h) ∷ lines_at g h.next
  pub stands : Stands g h

-- what a reader of the line at the place a answers: its role, and the place of the next, from which on no line is a fault
pub record Reads (g : List ℕ) (a : ℕ) (r : Role) (n : ℕ) : Type 0 where
  pub role : r ≡ first_role (lines_at g a)
  pub rest : lines_at g n ≡ drop 1 (lines_at g a)
  pub onward : a ≤ n
  pub within : n ≤ length g
  pub further : 0 < length (lines_at g a) → a < n
  pub clean : Clean a_guide (drop n g)

-- the same, with the line
pub record ReadsLine (g : List ℕ) (a : ℕ) (h : Here) : Type 0 where
  pub reads : Reads g a h.role h.next
  pub first : First g a h

-- the line at the place a, if there is one
abbrev pub LineAt : List ℕ → ℕ → Option Here → Type 0
LineAt g a None = lines_at g a ≡ []
LineAt g a (Some h) = ReadsLine g a h
