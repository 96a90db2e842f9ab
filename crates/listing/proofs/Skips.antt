-- No skip goes past the instructions exactly where each instruction meets its rule.
use Prim.Native.Nat.{ℕ, suc, ◌≤◌}
use mathlib.Core.Path.{◌≡◌, refl}
use mathlib.Core.List.{List, [], ◌∷◌}
use mathlib.Core.Bool.{Bool, true, false}
use mathlib.Core.Option.{none, some-ne-none}
use native.Mathlib.Omega.{arith}
use lib.ListN.{length}
use lib.Dec.{leb}
use borrow.Author.Tests.{leb-true, le-leb}
use Rattle.text.specs.Text.{Text}
use Rattle.lines.specs.declared.Form.TheVariants.{Listing}
use Rattle.lines.proofs.Valid.{LineOk, LinesOk}
use Rattle.plate.specs.Program.{Instruction, statement, goto, if_skip, skip_of}
use Rattle.plate.proofs.Valid.{InstructionOk, InstructionsOk}
use Rattle.listing.specs.Listing.{first_past}
use Rattle.listing.proofs.ListingLines.{instruction_line, program_lines}

skip-within : (behind : ℕ) (i : Instruction) → InstructionOk behind i → skip_of i ≤ behind
skip-within behind (statement x) h = omega arith
skip-within behind (goto k) h = h
skip-within behind (if_skip t k) h = h.1

within-ok : (behind : ℕ) (i : Instruction) → LineOk Listing (instruction_line i) → skip_of i ≤ behind → InstructionOk behind i
within-ok behind (statement x) h k = h
within-ok behind (goto j) h k = k
within-ok behind (if_skip t j) h k = (h.0, k)

-- each instruction skips at most what stands behind it
abbrev pub SkipsFit : List Instruction → Type 0
SkipsFit [] = Unit
SkipsFit (i ∷ is) = (skip_of i ≤ length is) × SkipsFit is

pub fit-none-past : (n : ℕ) (is : List Instruction) → SkipsFit is → first_past n is ≡ none
unfolding first_past
fit-none-past n [] h = refl
fit-none-past n (i ∷ is) h = rw (le-leb (skip_of i) (length is) h.0, first_past) (fit-none-past (suc n) is h.1)

skips-fit : (is : List Instruction) → InstructionsOk is → SkipsFit is
skips-fit [] h = tt
skips-fit (i ∷ is) h = (skip-within (length is) i h.0, skips-fit is h.1)

pub none-past : (n : ℕ) (is : List Instruction) → InstructionsOk is → first_past n is ≡ none
none-past n is h = fit-none-past n is (skips-fit is h)

pub instructions-ok : (ts : List Text) (n : ℕ) (is : List Instruction) → LinesOk Listing (program_lines ts is) → first_past n is ≡ none
    → InstructionsOk is
unfolding first_past
instructions-ok (t ∷ ts) n is h k = instructions-ok ts n is h.1 k
instructions-ok [] n [] h k = tt
instructions-ok [] n (i ∷ is) h k = go (leb (skip_of i) (length is)) refl (λ e. instructions-ok [] (suc n) is h.1 e)
  where
    go : (b : Bool) → leb (skip_of i) (length is) ≡ b → (first_past (suc n) is ≡ none → InstructionsOk is) → InstructionsOk (i ∷ is)
    go true e r = (within-ok (length is) i h.0.ok (leb-true (skip_of i) (length is) e), r (rw (e, first_past) at k))
    go false e r = absurd (some-ne-none n (rw (e, first_past) at k))
