-- `parse` reads back the lines that print a block, and of a guide's lines that are no faults it gives a block only for those that print it.
use mathlib.Core.Path.{◌≡◌, refl, sym, ◌∙◌, ap, subst}
use mathlib.Core.List.{List, [], ◌∷◌, ◌++◌, append_assoc, append-nil}
use mathlib.Core.Bool.{true, false≢true}
use Rattle.text.specs.Parts.{all}
use Rattle.text.proofs.Tests.{all_first, all_rest}
use Rattle.lines.specs.declared.Form.TheVariants.{Guide as a_guide}
use Rattle.lines.specs.Line.{Line, phrase, says, if_line, else_line, fi_line, goto_line, if_skip_line, faulty}
use Rattle.lines.specs.Clean.{is_clean}
use Rattle.lines.proofs.Valid.{ValidLine, LinesOk}
use Rattle.transcript.specs.declared.Test.{Test}
use Rattle.guide.specs.Block.{
  Block,
  empty,
  does,
  if_then,
  if_else,
  Behind,
  fi_then,
  else_then,
  Parsed,
  unmatched,
  parsed,
  if_with,
  else_with,
  line_then,
  parse,
}

-- the lines of a block
unfoldable pub block_lines : Block → List Line
block_lines empty = []
block_lines (does x rest) = says x ∷ block_lines rest
block_lines (if_then test t rest) = if_line test ∷ (block_lines t ++ (fi_line ∷ block_lines rest))
block_lines (if_else test t e rest) =
    if_line test ∷ (block_lines t ++ (else_line ∷ (block_lines e ++ (fi_line ∷ block_lines rest))))

-- the lines of what follows a block
unfoldable pub behind_lines : List Behind → List Line
behind_lines [] = []
behind_lines (fi_then rest ∷ behind) = fi_line ∷ (block_lines rest ++ behind_lines behind)
behind_lines (else_then e rest ∷ behind) = else_line ∷ (block_lines e ++ (fi_line ∷ (block_lines rest ++ behind_lines behind)))

-- ---- the printed block is read back

parse-then : (b : Block) (ls : List Line) (behind : List Behind) → parse ls ≡ parsed empty behind
    → parse (block_lines b ++ ls) ≡ parsed b behind
unfolding parse block_lines
parse-then empty ls behind e = e
parse-then (does x b) ls behind e = ap (line_then (says x)) (parse-then b ls behind e)
parse-then (if_then test t b) ls behind e =
    ap (λ (k : List Line). line_then (if_line test) (parse k)) (append_assoc (block_lines t) (fi_line ∷ block_lines b) ls)
    ∙ ap (line_then (if_line test))
    (parse-then t (fi_line ∷ (block_lines b ++ ls)) (fi_then b ∷ behind) (ap (line_then fi_line) (parse-then b ls behind e)))
parse-then (if_else test t o b) ls behind e =
    ap (λ (k : List Line). line_then (if_line test) (parse k)) regroup
    ∙ ap (line_then (if_line test))
    (parse-then t (else_line ∷ (block_lines o ++ (fi_line ∷ (block_lines b ++ ls)))) (else_then o b ∷ behind)
    (ap (line_then else_line)
    (parse-then o (fi_line ∷ (block_lines b ++ ls)) (fi_then b ∷ behind) (ap (line_then fi_line) (parse-then b ls behind e)))))
  where
    regroup : (block_lines t ++ (else_line ∷ (block_lines o ++ (fi_line ∷ block_lines b)))) ++ ls
        ≡ block_lines t ++ (else_line ∷ (block_lines o ++ (fi_line ∷ (block_lines b ++ ls))))
    regroup = simp append_assoc

pub parse-block_lines : (b : Block) → parse (block_lines b) ≡ parsed b []
unfolding parse
parse-block_lines b = rw append-nil at (parse-then b [] [] refl)

-- ---- a parsed list of lines is printed back

abbrev Prints : Parsed → List Line → Type 0
Prints unmatched ls = Unit
Prints (parsed b behind) ls = block_lines b ++ behind_lines behind ≡ ls

if-prints : (test : Test) (t : Block) (behind : List Behind) (ls : List Line) → Prints (parsed t behind) ls
    → Prints (if_with test t behind) (if_line test ∷ ls)
unfolding block_lines behind_lines
if-prints test t [] ls h = tt
if-prints test t (fi_then b ∷ behind) ls h = rw append_assoc (ap (λ (k : List Line). if_line test ∷ k) h)
if-prints test t (else_then e b ∷ behind) ls h = simp append_assoc (ap (λ (k : List Line). if_line test ∷ k) h)

else-prints : (e : Block) (behind : List Behind) (ls : List Line) → Prints (parsed e behind) ls
    → Prints (else_with e behind) (else_line ∷ ls)
unfolding block_lines behind_lines
else-prints e [] ls h = tt
else-prints e (fi_then b ∷ behind) ls h = ap (λ (k : List Line). else_line ∷ k) h
else-prints e (else_then o b ∷ behind) ls h = tt

line-prints : (l : Line) (ls : List Line) (p : Parsed) → ValidLine a_guide l → is_clean l ≡ true → Prints p ls → Prints (line_then l p) (l ∷ ls)
unfolding block_lines behind_lines
line-prints l ls unmatched v c h = tt
line-prints (phrase t) ls (parsed b behind) v c h = absurd v.ok
line-prints (says x) ls (parsed b behind) v c h = ap (λ (k : List Line). says x ∷ k) h
line-prints (if_line test) ls (parsed b behind) v c h = if-prints test b behind ls h
line-prints else_line ls (parsed b behind) v c h = else-prints b behind ls h
line-prints fi_line ls (parsed b behind) v c h = ap (λ (k : List Line). fi_line ∷ k) h
line-prints (goto_line k) ls (parsed b behind) v c h = absurd v.ok
line-prints (if_skip_line test k) ls (parsed b behind) v c h = absurd v.ok
line-prints (faulty x) ls (parsed b behind) v c h = absurd (false≢true c)

parse-prints : (ls : List Line) → LinesOk a_guide ls → all is_clean ls ≡ true → Prints (parse ls) ls
unfolding parse block_lines behind_lines
parse-prints [] v c = refl
parse-prints (l ∷ ls) v c =
    line-prints l ls (parse ls) v.0 (all_first is_clean l ls c) (parse-prints ls v.1 (all_rest is_clean l ls c))

pub parse-sound : (ls : List Line) (b : Block) → LinesOk a_guide ls → all is_clean ls ≡ true → parse ls ≡ parsed b [] → block_lines b ≡ ls
unfolding behind_lines
parse-sound ls b v c e = sym (append-nil (block_lines b)) ∙ subst (λ (p : Parsed). Prints p ls) e (parse-prints ls v c)
