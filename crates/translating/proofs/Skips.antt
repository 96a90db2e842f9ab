-- Every skip of a translated block stays within its instructions, and a skip of an accepted guide fits 9 bits.
use Prim.Native.Nat.{ℕ, zero, suc, ◌+◌, ◌^◌, ◌<◌, ◌≤◌}
use native.Mathlib.Omega.{arith}
use mathlib.Core.Path.{◌≡◌}
use mathlib.Core.List.{List, [], ◌∷◌, ◌++◌}
use lib.ListN.{length, get_or, length-append}
use Rattle.causes.specs.Answers.{made}
use Rattle.text.specs.Text.{Text}
use Rattle.guide.specs.Guide.{guide_of}
use Rattle.guide.specs.Block.{Block, empty, does, if_then, if_else}
use Rattle.plate.specs.Program.{Instruction, goto, skip_of}
use Rattle.listing.proofs.Skips.{SkipsFit}
use Rattle.translating.specs.Translation.{translate_block, translate_guide}
use Rattle.translating.proofs.Counted.{guide-room}

fit_append : (p q : List Instruction) → SkipsFit p → SkipsFit q → SkipsFit (p ++ q)
fit_append [] q h k = k
fit_append (i ∷ p) q h k = (omega (arith, length-append p q), fit_append p q h.1 k)

pub block-fits : (b : Block) → SkipsFit (translate_block b)
unfolding translate_block
block-fits empty = tt
block-fits (does x b) = (omega arith, block-fits b)
block-fits (if_then test t b) = (
  omega (arith, length-append (translate_block t) (translate_block b)),
  fit_append (translate_block t) (translate_block b) (block-fits t) (block-fits b),
)
block-fits (if_else test t e b) = (
  omega (arith, length-append (translate_block t) over),
  fit_append (translate_block t) over (block-fits t) (
    omega (arith, length-append (translate_block e) (translate_block b)),
    fit_append (translate_block e) (translate_block b) (block-fits e) (block-fits b),
  ),
)
  where
    over : List Instruction
    over = goto (length (translate_block e)) ∷ (translate_block e ++ translate_block b)

fit_at : (p : List Instruction) → SkipsFit p → (i : ℕ) (d : Instruction) → i < length p → i + 1 + skip_of (get_or p i d) ≤ length p
fit_at [] h i d within = absurd (omega arith)
fit_at (j ∷ p) h zero d within = omega arith
fit_at (j ∷ p) h (suc i) d within = omega (arith, fit_at p h.1 i d (omega arith))

pub skip-within : (b : Block) (i : ℕ) (d : Instruction) → i < length (translate_block b)
    → i + 1 + skip_of (get_or (translate_block b) i d) ≤ length (translate_block b)
skip-within b = fit_at (translate_block b) (block-fits b)

-- below 512
pub skip-fits : (book : List Text) (text : List ℕ) (b : Block) → guide_of book text ≡ made b
    → (i : ℕ) (d : Instruction) → i < length (translate_guide b).instructions
    → skip_of (get_or (translate_guide b).instructions i d) < 2 ^ 9
unfolding translate_guide
skip-fits book text b e i d within = omega (arith, guide-room book text b e, skip-within b i d within)
