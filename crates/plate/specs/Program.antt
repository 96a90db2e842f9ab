-- Document 01, "Plate bits": what a plate holds.
use Rattle.std.specs.Prelude.{ℕ, List}
use Rattle.text.specs.Text.{Text}
use Rattle.transcript.specs.Statement.{Statement}
use Rattle.transcript.specs.declared.Test.{Test}

-- "each a 3-bit code and its fields"
pub data Instruction : Type 0 where
  -- input, inputs, print or printex
  statement : Statement → Instruction
  goto : ℕ → Instruction
  if_skip : Test → ℕ → Instruction

-- the skip of a goto or an if; a statement skips nothing
abbrev pub skip_of : Instruction → ℕ
skip_of (statement x) = 0
skip_of (goto k) = k
skip_of (if_skip t k) = k

-- the own phrases, and the instructions
pub record Program : Type 0 where
  pub own : List Text
  pub instructions : List Instruction
