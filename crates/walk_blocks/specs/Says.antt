-- The statement of a line, by the line's head and fields.
use Rattle.std.specs.Prelude.{ℕ, ◌<◌, ◌≡◌, List, [], Bool, true, false, length, drop, get_or}
use Rattle.causes.specs.declared.Outcome.{Outcome}
use Rattle.causes.specs.declared.Outcome.TheVariants.{Verdict, End, Waiting, Outside}
use Rattle.lines.specs.declared.Head.{Head}
use Rattle.lines.specs.declared.Head.TheVariants as head
use Rattle.transcript.specs.Statement.{Statement, input, inputs, print, printex}

-- of a head that is a statement's
abbrev pub statement_by : Head → List (List ℕ) → Statement
statement_by (head.Input r) fs = input r (get_or fs 2 [])
statement_by (head.Inputs r n) fs = inputs r (get_or fs 2 []) (drop 3 fs)
statement_by head.Print fs = print (get_or fs 1 [])
statement_by head.Printex fs = printex (get_or fs 1 [])
statement_by head.Phrase fs = print []
statement_by (head.If test) fs = print []
statement_by head.Else fs = print []
statement_by head.Fi fs = print []
statement_by (head.Goto k) fs = print []
statement_by (head.IfSkip test k) fs = print []

-- a statement's head: its register is one of the 32, and its options are so many, at least one
abbrev pub Says : Head → List (List ℕ) → Type 0
Says (head.Input r) fs = r < 32
Says (head.Inputs r n) fs = (r < 32) × (n ≡ length (drop 3 fs)) × (0 < n)
Says head.Print fs = Unit
Says head.Printex fs = Unit
Says head.Phrase fs = ⊥
Says (head.If test) fs = ⊥
Says head.Else fs = ⊥
Says head.Fi fs = ⊥
Says (head.Goto k) fs = ⊥
Says (head.IfSkip test k) fs = ⊥

-- the walk goes on
abbrev pub is_end : Outcome → Bool
is_end Verdict = false
is_end End = true
is_end (Waiting wrong) = false
is_end Outside = false
