-- Document 01, "Walk": the blocks of a guide.
use Rattle.std.specs.Prelude.{List, [], ◌∷◌}
use Rattle.transcript.specs.Statement.{Statement}
use Rattle.transcript.specs.declared.Test.{Test}
use Rattle.lines.specs.Line.{Line, phrase, says, if_line, else_line, fi_line, goto_line, if_skip_line, faulty}

-- A block is empty, or it is its first statement and the rest of the block.
pub data Block : Type 0 where
  empty : Block
  -- `input`, `inputs`, `print` or `printex`, and the rest
  does : Statement → Block → Block
  -- an if without an `else` line: its true block, and the rest
  if_then : Test → Block → Block → Block
  -- an if with an `else` line: its true block, its else block, and the rest
  if_else : Test → Block → Block → Block → Block

-- What follows a block: for each if that is open there, the innermost first, the `fi` and the rest behind it, or the `else`, the else
-- block and the rest behind its `fi`.
pub data Behind : Type 0 where
  fi_then : Block → Behind
  else_then : Block → Block → Behind

-- The lines from one line on: the block that begins there, up to its `else`, its `fi` or the end, and what follows it.
pub data Parsed : Type 0 where
  -- an `else` or `fi` without its if, a second `else`, or an if without its `fi`
  unmatched : Parsed
  parsed : Block → List Behind → Parsed

-- an if whose true block is t: "the true block, up to `else` or `fi`"; "the else block, which is empty without an `else` line"
abbrev pub if_with : Test → Block → List Behind → Parsed
if_with test t [] = unmatched
if_with test t (fi_then rest ∷ behind) = parsed (if_then test t rest) behind
if_with test t (else_then e rest ∷ behind) = parsed (if_else test t e rest) behind

-- an `else` line whose block is e: a block ends here, and e goes up to the `fi`
abbrev pub else_with : Block → List Behind → Parsed
else_with e [] = unmatched
else_with e (fi_then rest ∷ behind) = parsed empty (else_then e rest ∷ behind)
else_with e (else_then e' rest ∷ behind) = unmatched

-- a line, and what the lines behind it are
abbrev pub line_then : Line → Parsed → Parsed
line_then l unmatched = unmatched
line_then (says x) (parsed b behind) = parsed (does x b) behind
line_then (if_line test) (parsed b behind) = if_with test b behind
line_then else_line (parsed b behind) = else_with b behind
line_then fi_line (parsed b behind) = parsed empty (fi_then b ∷ behind)
-- no lines of an accepted guide
line_then (phrase t) (parsed b behind) = parsed b behind
line_then (goto_line k) (parsed b behind) = parsed b behind
line_then (if_skip_line test k) (parsed b behind) = parsed b behind
line_then (faulty c) (parsed b behind) = parsed b behind

-- what a list of lines is, from the last line to the first
unfoldable pub parse : List Line → Parsed
parse [] = parsed empty []
parse (l ∷ ls) = line_then l (parse ls)

-- the block that begins a parsed list of lines
abbrev pub first_block : Parsed → Block
first_block unmatched = empty
first_block (parsed b behind) = b

-- the block of a guide's lines
unfoldable pub block_of : List Line → Block
block_of ls = first_block (parse ls)
