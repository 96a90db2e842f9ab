-- The instructions of the lines from a place on, and their bits: those of the first line there, and those behind it.
use Prim.Native.Nat.{ℕ, ◌+◌, ◌-◌, ◌≤◌, ◌<◌}
use native.Mathlib.Omega.{arith}
use native.Mathlib.Nat.{add-zero}
use mathlib.Core.Path.{◌≡◌, refl, ap, ◌∙◌}
use mathlib.Core.List.{List, [], ◌∷◌, ◌++◌, append_assoc}
use Rattle.std.specs.Prelude.{Ok}
use lib.ListN.{length, take, drop, get_or}
use lib.Seq.{get_or-drop, drop-drop}
use Rattle.text.specs.Parts.{split, comma, until_byte, LF}
use Rattle.phrases.specs.Phrases.{Phrases}
use Rattle.lines.specs.declared.Form.{Form}
use Rattle.lines.specs.declared.Head.{Head}
use Rattle.lines.specs.Line.{Line, line_of}
use Rattle.lines.specs.Check.{lines_of}
use Rattle.lines.specs.Answers.{head_of}
use Rattle.plate.specs.Program.{Instruction}
use Rattle.plate.specs.Writing.{instruction_bits, instructions_bits}
use Rattle.assemble.specs.LineCode.{line_code, lines_code, head_code, count_by, skip_by}
use Rattle.assemble.proofs.Ahead.{Ahead, lines_from, no_lines, first-line}
use Rattle.assemble.proofs.HeadCode.{counted, line-count, head-code}

-- the instructions from the place a on, the first of which has the number i
abbrev pub code_from : Form → List ℕ → List ℕ → ℕ → ℕ → List Instruction
code_from form ks s i a = lines_code (drop i ks) (lines_from form s a)

pub all-code : (form : Form) (ks s : List ℕ) (n : ℕ) → lines_code ks (lines_of form s) ≡ code_from form ks s (n - n) 0
all-code form ks s n = let z : n - n ≡ 0 = omega arith in rw z

pub no_code : (form : Form) (ks s : List ℕ) (i a : ℕ) → length s ≤ a → code_from form ks s i a ≡ []
unfolding lines_code
no_code form ks s i a h = ap (lines_code (drop i ks)) (no_lines form s a h)

bits-append : (c : Phrases) (is js : List Instruction) → instructions_bits c (is ++ js) ≡ instructions_bits c is ++ instructions_bits c js
unfolding instructions_bits
bits-append c [] js = refl
bits-append c (i ∷ is) js = rw (bits-append c is js, append_assoc (instruction_bits c i) (instructions_bits c is) (instructions_bits c js))

pub bits-end : (c : Phrases) (form : Form) (ks s : List ℕ) (i a : ℕ) → length s ≤ a → instructions_bits c (code_from form ks s i a) ≡ []
unfolding instructions_bits
bits-end c form ks s i a h = ap (instructions_bits c) (no_code form ks s i a h)

-- the line that starts at a ends at e
module _ {form : Form} {s : List ℕ} {a e : ℕ} (g : Ahead form s a) (h : a < length s) (k : e ≡ a + until_byte LF (drop a s)) (l : e ≤ length s)
    (ks : List ℕ) (i : ℕ) where
  abbrev line : Line
  line = line_of form (take (e - a) (drop a s))

  pub next-code : code_from form ks s i a ≡ line_code (get_or ks i 0) line ++ code_from form ks s (i + counted (head_of line)) (e + 1)
  unfolding lines_code
  next-code =
      let here : get_or (drop i ks) 0 0 ≡ get_or ks i 0 = get_or-drop i ks 0 0 ∙ ap (λ (n : ℕ). get_or ks n 0) (add-zero i) in
      ap (lines_code (drop i ks)) (first-line g h k l)
      ∙ ap (λ (j : ℕ). line_code j line ++ lines_code (drop (length (line_code j line)) (drop i ks)) (lines_from form s (e + 1))) here
      ∙ rw (← line-count (get_or ks i 0) line, drop-drop (counted (head_of line)) i ks)

  pub bits-next : (c : Phrases) {w j n : ℕ} {d : Head} → Ok d ≡ head_of line → w ≡ get_or ks i 0 → j ≡ skip_by w d → n ≡ i + count_by d
      → instructions_bits c (code_from form ks s i a)
      ≡ instructions_bits c (head_code j d (split comma (take (e - a) (drop a s)))) ++ instructions_bits c (code_from form ks s n (e + 1))
  bits-next c z v f m =
      ap (instructions_bits c) next-code
      ∙ bits-append c (line_code (get_or ks i 0) line) (code_from form ks s (i + counted (head_of line)) (e + 1))
      ∙ rw (head-code form (take (e - a) (drop a s)) (get_or ks i 0) z (rw v at f), m, ← z)
