-- Programs that meet the rules: exactly those that an accepted listing or plate holds.
use Prim.Native.Nat.{ℕ, ◌≤◌}
use mathlib.Core.List.{List, [], ◌∷◌}
use lib.ListN.{length}
use mathlib.Core.Path.{◌≡◌}
use mathlib.Core.Bool.{true}
use Rattle.text.specs.Parts.{all}
use Rattle.text.specs.Text.{Text, is_plain}
use Rattle.phrases.proofs.Valid.{PhrasesOk}
use Rattle.transcript.proofs.Valid.{StatementOk, TestOk}
use Rattle.plate.specs.Program.{Instruction, statement, goto, if_skip, Program}

-- an instruction with so many behind it
abbrev pub InstructionOk : ℕ → Instruction → Type 0
InstructionOk behind (statement x) = StatementOk x
InstructionOk behind (goto k) = k ≤ behind
InstructionOk behind (if_skip t k) = TestOk t × (k ≤ behind)

abbrev pub InstructionsOk : List Instruction → Type 0
InstructionsOk [] = Unit
InstructionsOk (i ∷ is) = InstructionOk (length is) i × InstructionsOk is

pub record ProgramOk (book : List Text) (p : Program) : Type 0 where
  pub phrases : PhrasesOk book [] p.own
  pub plain : all is_plain p.own ≡ true
  pub few : length p.own ≤ 32
  pub room : length p.instructions ≤ 512
  pub instructions : InstructionsOk p.instructions
