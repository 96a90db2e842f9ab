-- What the check of a text says: no line has a cause by itself, and there are as many instructions as it counted.
use Prim.Native.Nat.{ℕ, suc, ◌+◌, ◌≤◌}
use native.Mathlib.Omega.{arith}
use mathlib.Core.Path.{◌≡◌, ap}
use mathlib.Core.List.{List, [], ◌∷◌}
use Rattle.std.specs.Prelude.{Ok}
use lib.ListN.{length, drop, get_or, length-append}
use Rattle.text.specs.Text.{Text}
use Rattle.phrases.specs.Lookup.{own_texts}
use Rattle.lines.specs.declared.Form.{Form}
use Rattle.lines.specs.declared.Counts.{Counts}
use Rattle.lines.specs.Line.{Line, phrase, says, if_line, else_line, fi_line, goto_line, if_skip_line, faulty}
use Rattle.lines.specs.Check.{Seen, nothing_seen, next, most_bytes, lines_of}
use Rattle.lines.specs.Answers.{seen_in, checked_answer}
use Rattle.lines.proofs.Passes.{Passes}
use Rattle.lines.proofs.Accepts.{Accepts}
use Rattle.check_lines.proofs.Fine.{fine-accepts, fine-counted}
use Rattle.lines.proofs.CleanTexts.{passes-clean}
use Rattle.assemble.specs.LineCode.{line_code, lines_code}
use Rattle.assemble.specs.Assembled.{Counted}

-- ---- the check counts the instructions, whatever their skips are

line-counted : (n k : ℕ) (l : Line) (s : Seen) → (next n l s).instructions ≡ s.instructions + length (line_code k l)
line-counted n k (phrase t) s = omega arith
line-counted n k (says x) s = omega arith
line-counted n k (if_line test) s = omega arith
line-counted n k else_line s = omega arith
line-counted n k fi_line s = omega arith
line-counted n k (goto_line j) s = omega arith
line-counted n k (if_skip_line test j) s = omega arith
line-counted n k (faulty c) s = omega arith

lines-counted : (book : List Text) (n : ℕ) (s last : Seen) (ks : List ℕ) (ls : List Line) → Passes book n s last ls
    → s.instructions + length (lines_code ks ls) ≡ last.instructions
unfolding lines_code
lines-counted book n s last ks [] p = omega (arith, ap (λ (s : Seen). s.instructions) p.1)
lines-counted book n s last ks (l ∷ ls) p =
    let k = get_or ks 0 0 in
    let rest = drop (length (line_code k l)) ks in
    omega (arith, lines-counted book (suc n) (next n l s) last rest ls p.1, line-counted n k l s, length-append (line_code k l) (lines_code rest ls))

-- ---- an accepted text

module _ (form : Form) (book : List Text) (text : List ℕ) {k : Counts} (c : checked_answer (seen_in form book text) ≡ Ok k) where
  abbrev holds : Accepts form book text (record { own = own_texts k.own text; lines = lines_of form text })
  holds = fine-accepts form book text c

  pub few_bytes : length text ≤ most_bytes form
  few_bytes = holds.size

  pub accepted-counted : (skips : List ℕ) → Counted form skips text k.instructions
  accepted-counted skips =
      record {
        clean = passes-clean book 1 nothing_seen holds.seen (lines_of form text) holds.passes;
        count = omega (arith, lines-counted book 1 nothing_seen holds.seen skips (lines_of form text) holds.passes, fine-counted form book text c);
        few = omega (arith, holds.room, fine-counted form book text c);
      }
