-- The instruction of a line by its head: which it is, how many there are, and its skip; and what the code has written of it.
use Prim.Native.Nat.{ℕ}
use mathlib.Core.Path.{◌≡◌, refl, sym, ap, ◌∙◌}
use mathlib.Core.List.{List, [], ◌∷◌, append-nil}
use mathlib.Core.Bool.{Bool}
use lib.ListN.{length}
use Rattle.std.specs.Prelude.{Result, Ok, Err}
use Rattle.output.specs.Pour.{poured}
use Rattle.text.specs.Parts.{split, comma}
use Rattle.text.specs.Text.{Text}
use Rattle.phrases.specs.Phrases.{Phrases}
use Rattle.transcript.specs.declared.Test.{Test}
use Rattle.transcript.specs.Statement.{input, inputs, print, printex}
use Rattle.lines.specs.declared.Form.{Form}
use Rattle.causes.specs.declared.Cause.{Cause}
use Rattle.lines.specs.declared.Head.{Head}
use Rattle.lines.specs.declared.Head.TheVariants as head
use Rattle.lines.specs.Line.{Line, phrase, says, if_line, else_line, fi_line, goto_line, if_skip_line, faulty, line_of}
use Rattle.lines.specs.Answers.{head_of}
use Rattle.lines.proofs.FieldsRead.{ReadAs, as-fault, as-phrase, as-input, as-inputs, as-print, as-printex}
use Rattle.lines.proofs.FieldsRead.{as-if, as-else, as-fi, as-goto, as-if-skip, line-read-as}
use Rattle.plate.specs.Program.{Instruction, statement, goto, if_skip, skip_of}
use Rattle.plate.specs.Writing.{instruction_bits, instructions_bits}
use Rattle.writer.specs.Listing.{line_instruction, line_bits}
use Rattle.assemble.specs.LineCode.{line_code, head_code, count_by, skip_by}

-- ---- by what the head of a line is read as; a line that has a cause has none

abbrev pub counted : Result Head Cause → ℕ
counted (Ok h) = count_by h
counted (Err c) = 0

abbrev pub skipped : ℕ → Result Head Cause → ℕ
skipped k (Ok h) = skip_by k h
skipped k (Err c) = 0

abbrev code_by : ℕ → Result Head Cause → List Text → List Instruction
code_by k (Ok h) fs = head_code k h fs
code_by k (Err c) fs = []

-- ---- a line is no instruction, or one

pub data Coded (k : ℕ) (l : Line) : Type 0 where
  silent : line_code k l ≡ [] → counted (head_of l) ≡ 0 → skipped k (head_of l) ≡ 0 → Coded k l
  one : (i : Instruction) → line_code k l ≡ i ∷ [] → counted (head_of l) ≡ 1 → skipped k (head_of l) ≡ skip_of i → Coded k l

pub coded : (k : ℕ) (l : Line) → Coded k l
coded k (phrase t) = silent refl refl refl
coded k (says (input r t)) = one (statement (input r t)) refl refl refl
coded k (says (inputs r t options)) = one (statement (inputs r t options)) refl refl refl
coded k (says (print t)) = one (statement (print t)) refl refl refl
coded k (says (printex t)) = one (statement (printex t)) refl refl refl
coded k (if_line test) = one (if_skip test k) refl refl refl
coded k else_line = one (goto k) refl refl refl
coded k fi_line = silent refl refl refl
coded k (goto_line j) = one (goto j) refl refl refl
coded k (if_skip_line test j) = one (if_skip test j) refl refl refl
coded k (faulty c) = silent refl refl refl

pub line-count : (k : ℕ) (l : Line) → counted (head_of l) ≡ length (line_code k l)
line-count k l = go (coded k l)
  where
    go : Coded k l → counted (head_of l) ≡ length (line_code k l)
    go (silent e c s) = c ∙ ap length (sym e)
    go (one i e c s) = c ∙ ap length (sym e)

-- ---- the instruction by the head is that of the line; the skip is the line's own, or k

read-code : {form : Form} {fs : List Text} {l : Line} (k : ℕ) → ReadAs form fs l → code_by (skipped k (head_of l)) (head_of l) fs ≡ line_code k l
read-code k (as-fault c) = refl
read-code k (as-phrase t) = refl
read-code k (as-input r t) = refl
read-code k (as-inputs n r t) = refl
read-code k (as-print t) = refl
read-code k (as-printex t) = refl
read-code k (as-if r o c) = refl
read-code k as-else = refl
read-code k as-fi = refl
read-code k (as-goto j) = refl
read-code k (as-if-skip r o c j) = refl

pub head-code : (form : Form) (s : List ℕ) (k : ℕ) {j : ℕ} {d : Head} → Ok d ≡ head_of (line_of form s) → j ≡ skip_by k d
    → head_code j d (split comma s) ≡ line_code k (line_of form s)
head-code form s k e f = rw f (ap (λ r. code_by (skipped k r) r (split comma s)) e) ∙ read-code k (line-read-as form s)

-- ---- what the code has written, by the head h

-- the heads of all lines but a guide's if and `else`
other-code : (k : ℕ) (h : Head) (fs : List Text) → ((test : Test) → h ≡ head.If test → ⊥) → (h ≡ head.Else → ⊥) → line_instruction h fs ≡ head_code k h fs
other-code k head.Phrase fs o p = refl
other-code k (head.Input r) fs o p = refl
other-code k (head.Inputs r n) fs o p = refl
other-code k head.Print fs o p = refl
other-code k head.Printex fs o p = refl
other-code k (head.If test) fs o p = absurd (o test refl)
other-code k head.Else fs o p = absurd (p refl)
other-code k head.Fi fs o p = refl
other-code k (head.Goto j) fs o p = refl
other-code k (head.IfSkip test j) fs o p = refl

module _ (c : Phrases) (k : ℕ) (h : Head) (fs : List Text) (at : ℕ) (old : List Bool) (last : ℕ × List Bool) where
  one-put : (i : Instruction) → head_code k h fs ≡ i ∷ [] → last ≡ poured at (instruction_bits c i) old
      → last ≡ poured at (instructions_bits c (head_code k h fs)) old
  unfolding instructions_bits
  one-put i j f = rw (j, append-nil) f

  pub if-put : (test : Test) → h ≡ head.If test → last ≡ poured at (instruction_bits c (if_skip test k)) old
      → last ≡ poured at (instructions_bits c (head_code k h fs)) old
  if-put test j f = one-put (if_skip test k) (rw j) f

  pub else-put : h ≡ head.Else → last ≡ poured at (instruction_bits c (goto k)) old
      → last ≡ poured at (instructions_bits c (head_code k h fs)) old
  else-put j f = one-put (goto k) (rw j) f

  pub other-put : ((test : Test) → h ≡ head.If test → ⊥) → (h ≡ head.Else → ⊥) → last ≡ poured at (line_bits c (Ok h) fs) old
      → last ≡ poured at (instructions_bits c (head_code k h fs)) old
  unfolding line_bits
  other-put o p f = f ∙ ap (λ (is : List Instruction). poured at (instructions_bits c is) old) (other-code k h fs o p)
