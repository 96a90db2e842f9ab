-- The program of every accepted guide meets the rules.
use Prim.Native.Nat.{ℕ, ◌≤◌}
use native.Mathlib.Omega.{arith}
use mathlib.Core.Path.{◌≡◌, refl}
use mathlib.Core.List.{List, [], ◌∷◌, ◌++◌}
use lib.ListN.{length, length-append}
use Rattle.causes.specs.Answers.{made}
use Rattle.text.specs.Parts.{all}
use Rattle.text.specs.Text.{Text}
use Rattle.guide.specs.Block.{Block, empty, does, if_then, if_else, block_of}
use Rattle.guide.specs.Guide.{guide_of}
use Rattle.guide.proofs.Valid.{BlockOk}
use Rattle.guide.proofs.Accepted.{accepted-guide}
use Rattle.guide.proofs.Guides.{guide-holds}
use Rattle.plate.specs.Program.{Instruction, statement, goto, if_skip}
use Rattle.plate.proofs.Valid.{InstructionOk, InstructionsOk, ProgramOk}
use Rattle.translating.specs.Translation.{translate_block, translate_guide}
use Rattle.translating.proofs.Skips.{block-fits}
use Rattle.translating.proofs.Counted.{guide-counted}

-- with more instructions behind it
more-behind : (m n : ℕ) (i : Instruction) → m ≤ n → InstructionOk m i → InstructionOk n i
more-behind m n (statement x) l h = h
more-behind m n (goto k) l h = omega arith
more-behind m n (if_skip t k) l h = (h.0, omega arith)

ok-append : (p q : List Instruction) → InstructionsOk p → InstructionsOk q → InstructionsOk (p ++ q)
ok-append [] q h k = k
ok-append (i ∷ p) q h k =
    (more-behind (length p) (length (p ++ q)) i (omega (arith, length-append p q)) h.0, ok-append p q h.1 k)

pub block-instructions : (b : Block) → BlockOk b → InstructionsOk (translate_block b)
unfolding translate_block
block-instructions empty h = tt
block-instructions (does x b) h = (h.0, block-instructions b h.1)
block-instructions (if_then test t b) h = (
  (h.0, (block-fits (if_then test t b)).0),
  ok-append (translate_block t) (translate_block b) (block-instructions t h.1) (block-instructions b h.2),
)
block-instructions (if_else test t e b) h = (
  (h.0, (block-fits (if_else test t e b)).0),
  ok-append (translate_block t) (goto (length (translate_block e)) ∷ (translate_block e ++ translate_block b)) (block-instructions t h.1) (
    omega (arith, length-append (translate_block e) (translate_block b)),
    ok-append (translate_block e) (translate_block b) (block-instructions e h.2) (block-instructions b h.3),
  ),
)

pub guide-valid : (book : List Text) (text : List ℕ) (g : Block) → guide_of book text ≡ made g → ProgramOk book (translate_guide g)
unfolding translate_guide all
guide-valid book text =
    guide-holds (λ g. ProgramOk book (translate_guide g)) book text (λ a e.
    let k = accepted-guide book text a e in
    record {
      phrases = tt;
      plain = refl;
      few = omega arith;
      room = (guide-counted book text a e).room;
      instructions = block-instructions (block_of a.lines) k.values;
    })
