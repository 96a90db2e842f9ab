-- The check passes the lines of a program that meets the rules, and lines that it passes are those of a program.
use Prim.Native.Nat.{ℕ, suc, ◌+◌, ◌<◌, ◌≤◌}
use mathlib.Core.Path.{◌≡◌, refl, sym, ap, ◌∙◌}
use mathlib.Core.List.{List, [], ◌∷◌, ◌++◌, append_assoc, append-nil}
use Rattle.std.specs.Prelude.{None}
use Rattle.std.proofs.lemmas.Option.{none-some}
use native.Mathlib.Nat.{zero-add, suc-add, add-suc}
use native.Mathlib.Omega.{arith}
use lib.ListN.{length, length-append}
use borrow.Author.Tests.{lt-ltb}
use Rattle.text.specs.Text.{Text}
use Rattle.phrases.proofs.Valid.{PhrasesOk}
use Rattle.lines.specs.declared.Form.TheVariants.{Listing}
use Rattle.lines.specs.Line.{Line, phrase, says, if_line, else_line, fi_line, goto_line, if_skip_line, faulty}
use Rattle.lines.specs.Check.{Seen, phrase_cause, next, one_more_instruction}
use Rattle.lines.proofs.Valid.{LinesOk}
use Rattle.lines.proofs.Passes.{Passes}
use Rattle.lines.proofs.Kept.{phrase-allowed}
use Rattle.plate.specs.Program.{Instruction, statement, goto, if_skip}
use Rattle.listing.proofs.ListingLines.{instruction_line, program_lines}

-- ---- the lines of a program pass

-- the lines so far hold these phrases and k instructions, and no if is open
abbrev pub seen : List Text → ℕ → Seen
seen own k = record { own = own; instructions = k; ifs = [] }

module _ (book : List Text) where
  one_passes : (n k : ℕ) (own : List Text) (last : Seen) (i : Instruction) (ls : List Line) → k < 512
      → Passes book (suc n) (seen own (suc k)) last ls → Passes book n (seen own k) last (instruction_line i ∷ ls)
  one_passes n k own last (statement x) ls h p = (rw (lt-ltb k 512 h), p)
  one_passes n k own last (goto j) ls h p = (rw (lt-ltb k 512 h), p)
  one_passes n k own last (if_skip t j) ls h p = (rw (lt-ltb k 512 h), p)

  instructions-pass : (n k : ℕ) (own : List Text) (is : List Instruction) → k + length is ≤ 512
      → Passes book n (seen own k) (seen own (k + length is)) (program_lines [] is)
  instructions-pass n k own [] h = (refl, ap (seen own) (omega arith))
  instructions-pass n k own (i ∷ is) h =
      rw (add-suc, ← suc-add)
      (one_passes n k own _ i (program_lines [] is) (omega arith) (instructions-pass (suc n) (suc k) own is (omega arith)))

  pub program-passes : (n : ℕ) (earlier ts : List Text) (is : List Instruction) → PhrasesOk book earlier ts
      → length earlier + length ts ≤ 32 → length is ≤ 512
      → Passes book n (seen earlier 0) (seen (earlier ++ ts) (length is)) (program_lines ts is)
  program-passes n earlier [] is h f r = rw append-nil (rw zero-add at (instructions-pass n 0 earlier is (omega arith)))
  program-passes n earlier (t ∷ ts) is h f r = (
    rw (lt-ltb (length earlier) 32 (omega arith), h.1),
    rw append_assoc at (program-passes (suc n) (earlier ++ (t ∷ [])) ts is h.2 (omega (arith, length-append earlier (t ∷ []))) r),
  )

-- ---- lines that pass are those of a program

-- lines behind what is seen: phrases, where no instruction came before, and then instructions
pub record Sorted (s : Seen) (ls : List Line) (last : Seen) : Type 0 where
  pub own : List Text
  pub instructions : List Instruction
  pub lines : ls ≡ program_lines own instructions
  pub early : 0 < s.instructions → own ≡ []
  pub all_own : s.own ++ own ≡ last.own
  pub counted : s.instructions + length instructions ≡ last.instructions

module _ (book : List Text) (last : Seen) where
  nothing-more : (s : Seen) → s ≡ last → Sorted s [] last
  nothing-more s e =
      record {
        own = [];
        instructions = [];
        lines = refl;
        early = λ h. refl;
        all_own = append-nil s.own ∙ ap (λ q. q.own) e;
        counted = omega (arith, ap (λ (q : Seen). q.instructions) e);
      }

  phrase-more : (n : ℕ) (s : Seen) (t : Text) (ls : List Line) → phrase_cause book s t ≡ None → Sorted (next n (phrase t) s) ls last
      → Sorted s (phrase t ∷ ls) last
  phrase-more n s t ls e m =
      record {
        own = t ∷ m.own;
        instructions = m.instructions;
        lines = ap (◌∷◌ (phrase t)) m.lines;
        early = λ l. absurd (omega (arith, (phrase-allowed book s t e).0));
        all_own = sym (append_assoc s.own (t ∷ []) m.own) ∙ m.all_own;
        counted = m.counted;
      }

  instruction-more : (s : Seen) (i : Instruction) (ls : List Line) → Sorted (one_more_instruction s.ifs s) ls last
      → Sorted s (instruction_line i ∷ ls) last
  instruction-more s i ls m =
      let z : m.own ≡ [] = m.early (omega arith) in
      record {
        own = [];
        instructions = i ∷ m.instructions;
        lines = ap (◌∷◌ (instruction_line i)) (m.lines ∙ ap (λ ts. program_lines ts m.instructions) z);
        early = λ l. refl;
        all_own = rw (← z) m.all_own;
        counted = omega (arith, m.counted);
      }

  pub sorted : (n : ℕ) (s : Seen) (ls : List Line) → LinesOk Listing ls → Passes book n s last ls → Sorted s ls last
  sorted n s [] h p = nothing-more s p.1
  sorted n s (phrase t ∷ ls) h p = phrase-more n s t ls p.0 (sorted (suc n) (next n (phrase t) s) ls h.1 p.1)
  sorted n s (says x ∷ ls) h p = instruction-more s (statement x) ls (sorted (suc n) (next n (says x) s) ls h.1 p.1)
  sorted n s (goto_line j ∷ ls) h p = instruction-more s (goto j) ls (sorted (suc n) (next n (goto_line j) s) ls h.1 p.1)
  sorted n s (if_skip_line t j ∷ ls) h p =
      instruction-more s (if_skip t j) ls (sorted (suc n) (next n (if_skip_line t j) s) ls h.1 p.1)
  sorted n s (if_line t ∷ ls) h p = absurd h.0.ok
  sorted n s (else_line ∷ ls) h p = absurd h.0.ok
  sorted n s (fi_line ∷ ls) h p = absurd h.0.ok
  sorted n s (faulty c ∷ ls) h p = absurd (none-some c (sym p.0))
