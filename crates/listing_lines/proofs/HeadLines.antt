-- The line of an instruction that is read by its head.
use Prim.Native.Nat.{ℕ}
use mathlib.Core.Path.{◌≡◌, sym, ap, ◌∙◌}
use mathlib.Core.List.{List, [], ◌∷◌}
use Rattle.output.specs.Pour.{poured}
use Rattle.phrases.specs.Phrases.{Phrases}
use Rattle.plate.specs.Program.{Instruction}
use Rattle.plate.specs.Reading.{Place, Read, got}
use Rattle.fields.specs.Places.{end_with, Known}
use Rattle.plate_texts.proofs.Known.{known_same}
use Rattle.instructions.specs.declared.Head.{Head}
use Rattle.instructions.specs.Heads.{headed, instruction_of}
use Rattle.listing.specs.Listing.{instruction_fields, lines_text}

-- the line of an instruction, which is known to be this one
pub line-is : (old : List ℕ) {i j : Instruction} {r : ℕ × List ℕ} → j ≡ i → r ≡ poured 0 (lines_text (instruction_fields i ∷ [])) old
    → r ≡ poured 0 (lines_text (instruction_fields j ∷ [])) old
line-is old h e = e ∙ ap (λ i. poured 0 (lines_text (instruction_fields i ∷ [])) old) (sym h)

-- m is the instruction that the head h begins, and h is this one
module _ (plate : List ℕ) (c : Phrases) {h k : Head} {m : Read Instruction} (e : headed plate c h ≡ m) (s : h ≡ k) where
  pub head-known : Known m → Known (headed plate c k)
  head-known w = known_same (ap (headed plate c) (sym s) ∙ e) w

  pub head-line : (old : List ℕ) {end : ℕ} {left : List ℕ} {q : Place}
      → ((end, left) ≡ poured 0 (lines_text (instruction_fields (instruction_of (headed plate c k)) ∷ [])) old) × (got 0 q ≡ end_with 0 (headed plate c k))
      → ((end, left) ≡ poured 0 (lines_text (instruction_fields (instruction_of m) ∷ [])) old) × (got 0 q ≡ end_with 0 m)
  head-line old l =
      let same = ap (headed plate c) (sym s) ∙ e in
      (l.0 ∙ ap (λ m. poured 0 (lines_text (instruction_fields (instruction_of m) ∷ [])) old) same, l.1 ∙ ap (end_with 0) same)
