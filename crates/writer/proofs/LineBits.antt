-- The bits of a listing line, by its head.
use Prim.Native.Nat.{ℕ, ◌≤◌}
use mathlib.Core.Path.{◌≡◌, refl, sym, ◌∙◌}
use mathlib.Core.List.{List, [], ◌∷◌, append-nil}
use mathlib.Core.Bool.{Bool}
use Rattle.std.specs.Prelude.{Result, Ok, Err}
use Rattle.causes.specs.declared.Cause.{Cause}
use Rattle.output.specs.Pour.{poured}
use Rattle.output.proofs.Pour.{none}
use Rattle.text.specs.Text.{Text}
use Rattle.phrases.specs.Phrases.{Phrases}
use Rattle.transcript.specs.declared.Test.{Test}
use Rattle.lines.specs.declared.Head.{Head}
use Rattle.lines.specs.declared.Head.TheVariants as head
use Rattle.lines.specs.Answers.{Heads}
use Rattle.plate.specs.Program.{Instruction}
use Rattle.plate.specs.Writing.{instruction_bits, instructions_bits}
use Rattle.writer.specs.Listing.{HeadOf, line_instruction, line_bits}

-- a line that has no cause has the head that was read
pub headed : {r : Result Head Cause} {h : Head} (s : List ℕ) → HeadOf r s → r ≡ Ok h → Heads h s
headed s (form, e) z = (form, sym z ∙ e)

-- a line with one instruction, whose head h is known to be k
pub line_writes : (c : Phrases) (fs : List Text) (h k : Head) {r : Result Head Cause} → r ≡ Ok h → h ≡ k → (at : ℕ) (old : List Bool) (i : Instruction)
    (last : ℕ × List Bool) → line_instruction k fs ≡ i ∷ [] → last ≡ poured at (instruction_bits c i) old → last ≡ poured at (line_bits c r fs) old
unfolding line_bits instructions_bits
line_writes c fs h k z e at old i last one f = rw (z, e, one, append-nil) f

-- a line that has a cause
pub faulty-silent : (c : Phrases) (fs : List Text) (r : Result Head Cause) → ((h : Head) → r ≡ Ok h → ⊥) → (at : ℕ) (old : List Bool)
    → at ≤ 18446744073709551615 → (at, old) ≡ poured at (line_bits c r fs) old
unfolding line_bits
faulty-silent c fs (Ok h) n at old m = absurd (n h refl)
faulty-silent c fs (Err cause) n at old m = none at old m

-- the heads with no instruction: Phrase, If, Else and Fi; here as those that are none of the six others
module _ (h : Head) (input : (r : ℕ) → h ≡ head.Input r → ⊥) (inputs : (r n : ℕ) → h ≡ head.Inputs r n → ⊥) (print : h ≡ head.Print → ⊥)
    (printex : h ≡ head.Printex → ⊥) (goto : (j : ℕ) → h ≡ head.Goto j → ⊥) (if_skip : (t : Test) (j : ℕ) → h ≡ head.IfSkip t j → ⊥) where
  silent-none : (fs : List Text) → line_instruction h fs ≡ []
  silent-none fs = go h refl
    where
      go : (k : Head) → h ≡ k → line_instruction k fs ≡ []
      go head.Phrase e = refl
      go (head.Input r) e = absurd (input r e)
      go (head.Inputs r n) e = absurd (inputs r n e)
      go head.Print e = absurd (print e)
      go head.Printex e = absurd (printex e)
      go (head.If t) e = refl
      go head.Else e = refl
      go head.Fi e = refl
      go (head.Goto j) e = absurd (goto j e)
      go (head.IfSkip t j) e = absurd (if_skip t j e)

  pub line-silent : {r : Result Head Cause} → r ≡ Ok h → (c : Phrases) (fs : List Text) (at : ℕ) (old : List Bool) → at ≤ 18446744073709551615
      → (at, old) ≡ poured at (line_bits c r fs) old
  unfolding line_bits instructions_bits
  line-silent z c fs at old m = rw (z, silent-none fs) (none at old m)
