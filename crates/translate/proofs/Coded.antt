-- A block's lines are counted to the skips of the block's instructions, and with these skips they are translated to the instructions.
use Prim.Native.Nat.{ℕ, zero, suc, ◌+◌, ◌≤◌}
use native.Mathlib.Omega.{arith}
use mathlib.Core.Path.{◌≡◌, refl, sym, ap, ◌∙◌}
use mathlib.Core.List.{List, [], ◌∷◌, ◌++◌, map, map-append, append_assoc, append-nil}
use mathlib.Core.Bool.{true, false}
use lib.ListN.{length, drop, length-append, length-map}
use Rattle.output.specs.Pour.{pour}
use Rattle.output.proofs.Pour.{pour-fits}
use Rattle.lines.specs.Line.{Line, else_line, fi_line}
use Rattle.guide.specs.Block.{Block, empty, does, if_then, if_else}
use Rattle.guide.specs.Lines.{first_role, begins_by}
use Rattle.guide.proofs.Blocks.{block_lines}
use Rattle.plate.specs.Program.{Instruction, statement, goto, if_skip, skip_of}
use Rattle.assemble.specs.LineCode.{lines_code}
use Rattle.translating.specs.Translation.{translate_block}
use Rattle.translate.specs.Lengths.{Extent, Counter, behind, and_then, at_else, skip_over, goto_over, if_with, statement_length, block_with, block_length}
use Rattle.translate.proofs.Counting.{count-ends}

abbrev extent : List ℕ → List Line → Extent
extent ks ls = record { skips = ks; lines = ls }

-- the skips of a block's instructions
abbrev skips : Block → List ℕ
skips b = map skip_of (translate_block b)

-- ---- an if, whose blocks and what is behind it f counts

module _ (f : Counter) (ts ls rest : List Line) (ks ms : List ℕ) (h : f ls ≡ extent ms rest) where
  if-counted : f ts ≡ extent ks (fi_line ∷ ls) → and_then (statement_length true f ts) f ≡ extent (length ks ∷ (ks ++ ms)) rest
  unfolding statement_length skip_over
  if-counted e =
      let c : length ks + 0 ≡ length ks = omega arith in
      ap (λ (x : Extent). and_then (if_with (at_else x.lines) f x) f) e
      ∙ ap (behind ((length ks + 0) ∷ ks)) h
      ∙ (λ i. extent (c i ∷ (ks ++ ms)) rest)

  else-counted : (os : List Line) (js : List ℕ) → f ts ≡ extent ks (else_line ∷ os) → f os ≡ extent js (fi_line ∷ ls)
      → and_then (statement_length true f ts) f ≡ extent (suc (length ks) ∷ (ks ++ (length js ∷ (js ++ ms)))) rest
  unfolding statement_length skip_over
  else-counted os js e o =
      let c : length ks + 1 ≡ suc (length ks) = omega arith in
      ap (λ (x : Extent). and_then (if_with (at_else x.lines) f x) f) e
      ∙ ap (λ (x : Extent). and_then (extent ((length ks + 1) ∷ (ks ++ goto_over x)) (drop 1 x.lines)) f) o
      ∙ ap (behind ((length ks + 1) ∷ (ks ++ (length js ∷ js)))) h
      ∙ (λ i. extent (c i ∷ append_assoc ks (length js ∷ js) ms i) rest)

-- ---- the count of a block's lines

count-block : (b : Block) (n : ℕ) (rest : List Line) → begins_by (first_role rest) ≡ false → length (block_lines b ++ rest) ≤ n
    → block_length n (block_lines b ++ rest) ≡ extent (skips b) rest
unfolding block_length block_with statement_length block_lines translate_block
count-block empty n rest c l = count-ends n rest c
count-block (does x b) zero rest c l = absurd (omega arith)
count-block (does x b) (suc n) rest c l = ap (behind (0 ∷ [])) (count-block b n rest c (omega arith))
count-block (if_then test t b) zero rest c l = absurd (omega arith)
count-block (if_then test t b) (suc n) rest c l =
    let ls = block_lines b ++ rest in
    let group = append_assoc (block_lines t) (fi_line ∷ block_lines b) rest in
    let long : length (block_lines t ++ (fi_line ∷ ls)) ≤ n = omega (arith, ap length group) in
    let inner : length ls ≤ n = omega (arith, length-append (block_lines t) (fi_line ∷ ls)) in
    ap (λ (l : List Line). and_then (statement_length true (block_length n) l) (block_length n)) group
    ∙ if-counted (block_length n) (block_lines t ++ (fi_line ∷ ls)) ls rest (skips t) (skips b) (count-block b n rest c inner)
    (count-block t n (fi_line ∷ ls) refl long)
    ∙ simp (length-map, map-append)
count-block (if_else test t o b) zero rest c l = absurd (omega arith)
count-block (if_else test t o b) (suc n) rest c l =
    let ls = block_lines b ++ rest in
    let os = block_lines o ++ (fi_line ∷ ls) in
    let ts = block_lines t ++ (else_line ∷ os) in
    let group : (block_lines t ++ (else_line ∷ (block_lines o ++ (fi_line ∷ block_lines b)))) ++ rest ≡ ts = simp append_assoc in
    let long : length ts ≤ n = omega (arith, ap length group) in
    let second : length os ≤ n = omega (arith, length-append (block_lines t) (else_line ∷ os)) in
    let inner : length ls ≤ n = omega (arith, length-append (block_lines o) (fi_line ∷ ls)) in
    ap (λ (l : List Line). and_then (statement_length true (block_length n) l) (block_length n)) group
    ∙ else-counted (block_length n) ts ls rest (skips t) (skips b) (count-block b n rest c inner) os (skips o)
    (count-block t n (else_line ∷ os) refl long)
    (count-block o n (fi_line ∷ ls) refl second)
    ∙ simp (length-map, map-append)

-- ---- the instructions of a block's lines, with its skips and others behind them

code-block : (b : Block) (ks : List ℕ) (rest : List Line) → lines_code (skips b ++ ks) (block_lines b ++ rest) ≡ translate_block b ++ lines_code ks rest
unfolding lines_code block_lines translate_block
code-block empty ks rest = refl
code-block (does x b) ks rest = ap (λ (is : List Instruction). statement x ∷ is) (code-block b ks rest)
code-block (if_then test t b) ks rest =
    ap (λ (is : List Instruction). if_skip test (length (translate_block t)) ∷ is)
    (simp (map-append, append_assoc) (code-block t (skips b ++ ks) (fi_line ∷ (block_lines b ++ rest))
    ∙ ap (λ (is : List Instruction). translate_block t ++ is) (code-block b ks rest)))
code-block (if_else test t o b) ks rest =
    let js = skips b ++ ks in
    let ls = block_lines b ++ rest in
    let k = length (translate_block o) in
    let rests = code-block o js (fi_line ∷ ls) ∙ ap (λ (is : List Instruction). translate_block o ++ is) (code-block b ks rest) in
    ap (λ (is : List Instruction). if_skip test (suc (length (translate_block t))) ∷ is)
    (simp (map-append, append_assoc) (code-block t (k ∷ (skips o ++ js)) (else_line ∷ (block_lines o ++ (fi_line ∷ ls)))
    ∙ ap (λ (is : List Instruction). translate_block t ++ (goto k ∷ is)) rests))

-- lines that are those of one block, with a table that has room for the skips
pub lines_code_lem : (ls : List Line) (b : Block) (table : List ℕ) → block_lines b ≡ ls → length (translate_block b) ≤ length table
    → lines_code (pour 0 (block_length (length ls) ls).skips table) ls ≡ translate_block b
unfolding lines_code
lines_code_lem ls b table e k =
    let p : block_lines b ++ [] ≡ ls = append-nil (block_lines b) ∙ e in
    let counted = ap (λ (x : Extent). x.skips) (count-block b (length (block_lines b ++ [])) [] refl (omega arith)) in
    let room = pour-fits (skips b) table (omega (arith, length-map (translate_block b) skip_of)) in
    ap (λ (ls : List Line). lines_code (pour 0 (block_length (length ls) ls).skips table) ls) (sym p)
    ∙ ap (λ (ks : List ℕ). lines_code ks (block_lines b ++ [])) (ap (λ (ks : List ℕ). pour 0 ks table) counted ∙ room)
    ∙ code-block b (drop (length (skips b)) table) []
    ∙ append-nil (translate_block b)
