-- The lines of an accepted guide have as many instructions as the check counts.
use Prim.Native.Nat.{ℕ, suc, ◌+◌, ◌≤◌}
use native.Mathlib.Omega.{arith}
use mathlib.Core.Path.{◌≡◌, ap}
use mathlib.Core.List.{List, [], ◌∷◌}
use Rattle.text.specs.Text.{Text}
use Rattle.phrases.specs.Lookup.{own_texts}
use lib.ListN.{length}
use Rattle.std.specs.Prelude.{Ok}
use Rattle.lines.specs.declared.Form.TheVariants.{Guide as a_guide}
use Rattle.lines.specs.Line.{Line, phrase, says, if_line, else_line, fi_line, goto_line, if_skip_line, faulty}
use Rattle.lines.specs.Check.{Seen, nothing_seen, next, lines_of}
use Rattle.lines.specs.Answers.{seen_in, checked_answer}
use Rattle.lines.specs.Clean.{Clean}
use Rattle.lines.proofs.Passes.{Passes}
use Rattle.lines.proofs.Accepts.{Accepts}
use Rattle.check_lines.proofs.Fine.{fine-accepts, fine-counted}
use Rattle.guide.specs.Lines.{lines_at}
use Rattle.guide.proofs.Accepted.{accepted-clean}

-- the instructions of a line, as the check counts them
abbrev pub line_count : Line → ℕ
line_count l = (next 0 l nothing_seen).instructions

abbrev pub lines_count : List Line → ℕ
lines_count [] = 0
lines_count (l ∷ ls) = line_count l + lines_count ls

line-counted : (n : ℕ) (s : Seen) (l : Line) → (next n l s).instructions ≡ s.instructions + line_count l
line-counted n s (phrase t) = omega arith
line-counted n s (says x) = omega arith
line-counted n s (if_line test) = omega arith
line-counted n s else_line = omega arith
line-counted n s fi_line = omega arith
line-counted n s (goto_line k) = omega arith
line-counted n s (if_skip_line test k) = omega arith
line-counted n s (faulty c) = omega arith

lines-counted : (book : List Text) (n : ℕ) (s last : Seen) (ls : List Line) → Passes book n s last ls
    → last.instructions ≡ s.instructions + lines_count ls
lines-counted book n s last [] p = omega (arith, ap (λ (s : Seen). s.instructions) p.1)
lines-counted book n s last (l ∷ ls) p = omega (arith, lines-counted book (suc n) (next n l s) last ls p.1, line-counted n s l)

-- ---- an accepted guide

-- the check against some book accepts the guide, and counts n instructions
abbrev pub Counted : List ℕ → ℕ → Type 0
Counted g n = (book : List Text) × (own : ℕ) × (checked_answer (seen_in a_guide book g) ≡ Ok (record { own = own; instructions = n }))

module _ (g : List ℕ) (n : ℕ) (c : Counted g n) where
  abbrev accepted : Accepts a_guide c.0 g (record { own = own_texts c.1 g; lines = lines_of a_guide g })
  accepted = fine-accepts a_guide c.0 g c.2

  pub guide-counted : n ≡ lines_count (lines_at g 0)
  unfolding lines_at
  guide-counted = omega (arith, lines-counted c.0 1 nothing_seen accepted.seen (lines_of a_guide g) accepted.passes, fine-counted a_guide c.0 g c.2)

  pub few-counted : n ≤ 512
  few-counted = omega (arith, accepted.room, fine-counted a_guide c.0 g c.2)

  pub counted-clean : Clean a_guide g
  counted-clean = accepted-clean c.0 g (record { own = c.1; instructions = n }) c.2

  pub counted-size : length g ≤ 16384
  counted-size = accepted.size
