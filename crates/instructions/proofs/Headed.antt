-- An instruction by its head: which of its texts are known to be good, what it is, and where it ends.
use Prim.Native.Nat.{ℕ, ◌+◌}
use mathlib.Core.Path.{◌≡◌, refl, sym, ap, ◌∙◌}
use mathlib.Core.List.{List}
use Rattle.text.specs.Text.{Text}
use Rattle.transcript.specs.declared.Test.{Test}
use Rattle.transcript.specs.Statement.{input, inputs, print, printex}
use Rattle.phrases.specs.Phrases.{Phrases}
use Rattle.plate.specs.Program.{Instruction, statement, goto, if_skip}
use Rattle.plate.specs.Reading.{Place, Read, got, stopped, return}
use Rattle.plate.specs.Plate.{text, options, fields_by}
use Rattle.fields.specs.Places.{place_at, end_with, values_of, Known}
use Rattle.fields.proofs.Onward.{then-got}
use Rattle.plate_texts.proofs.Known.{known_same, known-first, known-then}
use Rattle.plate_texts.proofs.Ended.{ended_some, measured-got, measured-map}
use Rattle.instructions.specs.declared.Head.{Head}
use Rattle.instructions.specs.declared.Head.TheVariants.{Input, Inputs, Print, Printex, Goto, IfSkip}
use Rattle.instructions.specs.Heads.{headed, instruction_of}

-- values that are known to be no refusal were read
pub values-there : {A : Type 0} (m : Read (List A)) → Known m → (s : Place) × (got (values_of m) s ≡ m)
values-there (got xs q) w = (q, refl)
values-there (stopped cause bit) w = absurd (w.good refl)

-- an instruction of which the end is known was read
pub instruction-ended : (s : Place) (m : Read Instruction) → got 0 s ≡ end_with 0 m → got (instruction_of m) s ≡ m
instruction-ended s m e = let t = ended_some 0 0 s m e in ap (λ m. got (instruction_of m) s) (sym t.1) ∙ t.1

-- m is the instruction that the head h begins
module _ (plate : List ℕ) (c : Phrases) (h : Head) {m : Read Instruction} (e : headed plate c h ≡ m) where
  as-headed : {k : Head} → h ≡ k → headed plate c k ≡ m
  as-headed s = ap (headed plate c) (sym s) ∙ e

  -- ---- what was read, and where it ends

  pub input-read : {r bit : ℕ} {t : Text} {q : Place} → h ≡ Input r bit → got t q ≡ text c (place_at plate bit)
      → got (statement (input r t)) q ≡ m
  unfolding headed return
  input-read s f = then-got _ _ _ f ∙ as-headed s

  pub input-end : {r bit : ℕ} → h ≡ Input r bit → end_with 0 (text c (place_at plate bit)) ≡ end_with 0 m
  unfolding headed
  input-end s = measured-map (λ i. 0) (text c) _ _ ∙ ap (end_with 0) (as-headed s)

  pub print-read : {bit : ℕ} {t : Text} {q : Place} → h ≡ Print bit → got t q ≡ text c (place_at plate bit) → got (statement (print t)) q ≡ m
  unfolding headed return
  print-read s f = then-got _ _ _ f ∙ as-headed s

  pub print-end : {bit : ℕ} → h ≡ Print bit → end_with 0 (text c (place_at plate bit)) ≡ end_with 0 m
  unfolding headed
  print-end s = measured-map (λ i. 0) (text c) _ _ ∙ ap (end_with 0) (as-headed s)

  pub printex-read : {bit : ℕ} {t : Text} {q : Place} → h ≡ Printex bit → got t q ≡ text c (place_at plate bit)
      → got (statement (printex t)) q ≡ m
  unfolding headed return
  printex-read s f = then-got _ _ _ f ∙ as-headed s

  pub printex-end : {bit : ℕ} → h ≡ Printex bit → end_with 0 (text c (place_at plate bit)) ≡ end_with 0 m
  unfolding headed
  printex-end s = measured-map (λ i. 0) (text c) _ _ ∙ ap (end_with 0) (as-headed s)

  pub inputs_read : {r bit : ℕ} {t : Text} {os : List Text} {q u : Place} → h ≡ Inputs r bit → got t q ≡ text c (place_at plate bit)
      → got os u ≡ options c q → got (statement (inputs r t os)) u ≡ m
  unfolding headed return
  inputs_read s f g = then-got _ _ _ g ∙ then-got _ _ _ f ∙ as-headed s

  pub inputs_end : {r bit : ℕ} {q : Place} → h ≡ Inputs r bit → got 0 q ≡ end_with 0 (text c (place_at plate bit))
      → end_with 0 (options c q) ≡ end_with 0 m
  unfolding headed
  inputs_end s f = measured-map (λ i. 0) (options c) _ _ ∙ ap (end_with 0) (then-got _ _ _ (measured-got (λ ts. 0) 0 _ _ f) ∙ as-headed s)

  pub goto-read : {k next : ℕ} → h ≡ Goto k next → got (goto k) (place_at plate next) ≡ m
  unfolding headed
  goto-read s = as-headed s

  pub goto-is : {k next : ℕ} → h ≡ Goto k next → instruction_of m ≡ goto k
  goto-is s = sym (ap instruction_of (goto-read s))

  -- ---- of an instruction that is known to be good, the texts and the fields of an if are too, and they are its own

  module _ (w : Known m) where
    module _ {bit ahead : ℕ} (next : ℕ) {t : Test} {k : ℕ} (s : h ≡ IfSkip bit ahead)
        (f : (c : Phrases) (behind : ℕ) → Known (fields_by c behind 5 (place_at plate (bit + 3)))
        → got (if_skip t k) (place_at plate next) ≡ fields_by c behind 5 (place_at plate (bit + 3))) where
      pub if-read : got (if_skip t k) (place_at plate next) ≡ m
      unfolding headed
      if-read = f c 511 (known_same (as-headed s) w) ∙ as-headed s

      pub if-is : instruction_of m ≡ if_skip t k
      if-is = sym (ap instruction_of if-read)

    pub input-text : {r bit : ℕ} → h ≡ Input r bit → Known (text c (place_at plate bit))
    unfolding headed
    input-text s = known-first _ _ _ (known_same (as-headed s) w)

    pub input-is : {r bit : ℕ} → h ≡ Input r bit → instruction_of m ≡ statement (input r (values_of (text c (place_at plate bit))))
    input-is s = sym (ap instruction_of (input-read s (values-there _ (input-text s)).1))

    pub print-text : {bit : ℕ} → h ≡ Print bit → Known (text c (place_at plate bit))
    unfolding headed
    print-text s = known-first _ _ _ (known_same (as-headed s) w)

    pub print-is : {bit : ℕ} → h ≡ Print bit → instruction_of m ≡ statement (print (values_of (text c (place_at plate bit))))
    print-is s = sym (ap instruction_of (print-read s (values-there _ (print-text s)).1))

    pub printex-text : {bit : ℕ} → h ≡ Printex bit → Known (text c (place_at plate bit))
    unfolding headed
    printex-text s = known-first _ _ _ (known_same (as-headed s) w)

    pub printex-is : {bit : ℕ} → h ≡ Printex bit → instruction_of m ≡ statement (printex (values_of (text c (place_at plate bit))))
    printex-is s = sym (ap instruction_of (printex-read s (values-there _ (printex-text s)).1))

    pub inputs-text : {r bit : ℕ} → h ≡ Inputs r bit → Known (text c (place_at plate bit))
    unfolding headed
    inputs-text s = known-first _ _ _ (known_same (as-headed s) w)

    -- the options stand behind the text, which ends at q
    pub inputs-options : {r bit : ℕ} {q : Place} → h ≡ Inputs r bit → got 0 q ≡ end_with 0 (text c (place_at plate bit)) → Known (options c q)
    unfolding headed
    inputs-options s f = known-first _ _ _ (known-then _ _ _ (known_same (as-headed s) w) (measured-got (λ ts. 0) 0 _ _ f))

    pub inputs-is : {r bit : ℕ} {q : Place} → h ≡ Inputs r bit → got 0 q ≡ end_with 0 (text c (place_at plate bit))
        → instruction_of m ≡ statement (inputs r (values_of (text c (place_at plate bit))) (values_of (options c q)))
    inputs-is s f =
        sym (ap instruction_of (inputs_read s (measured-got (λ ts. 0) 0 _ _ f) (values-there _ (inputs-options s f)).1))
