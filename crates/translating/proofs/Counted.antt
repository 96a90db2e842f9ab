-- The check of a guide counts the instructions that its translation has, so that they are at most 512.
use Prim.Native.Nat.{ℕ, suc, ◌+◌, ◌≤◌}
use native.Mathlib.Omega.{arith}
use mathlib.Core.Path.{◌≡◌, subst, ap}
use mathlib.Core.List.{List, [], ◌∷◌, ◌++◌}
use lib.ListN.{length, length-append}
use Rattle.causes.specs.Answers.{made}
use Rattle.text.specs.Text.{Text}
use Rattle.transcript.specs.declared.Test.{Test}
use Rattle.lines.specs.declared.Form.TheVariants.{Guide as a_guide}
use Rattle.lines.specs.Line.{Line, phrase, says, if_line, else_line, fi_line, goto_line, if_skip_line, faulty}
use Rattle.lines.specs.Check.{Seen, nothing_seen, next, check_from, Accepted, accept}
use Rattle.lines.proofs.Valid.{ValidLine, LinesOk}
use Rattle.lines.proofs.Passes.{Passes, passes-check}
use Rattle.lines.proofs.Accepts.{accepts}
use Rattle.guide.specs.Block.{
  Block,
  if_then,
  if_else,
  Behind,
  fi_then,
  else_then,
  Parsed,
  unmatched,
  parsed,
  if_with,
  else_with,
  line_then,
  parse,
  block_of,
}
use Rattle.guide.specs.Guide.{guide_of}
use Rattle.guide.proofs.Accepted.{accepted-guide}
use Rattle.guide.proofs.Guides.{guide-holds}
use Rattle.plate.specs.Program.{Instruction, goto}
use Rattle.translating.specs.Translation.{translate_block, translate_guide}

abbrev pub size : Block → ℕ
size b = length (translate_block b)

-- the instructions of what follows a block
abbrev size_behind : List Behind → ℕ
size_behind [] = 0
size_behind (fi_then rest ∷ behind) = size rest + size_behind behind
size_behind (else_then e rest ∷ behind) = suc (size e + (size rest + size_behind behind))

pub size-then : (test : Test) (t rest : Block) → size (if_then test t rest) ≡ suc (size t + size rest)
unfolding translate_block
size-then test t rest = ap suc (length-append (translate_block t) (translate_block rest))

pub size-else : (test : Test) (t e rest : Block) → size (if_else test t e rest) ≡ suc (size t + suc (size e + size rest))
unfolding translate_block
size-else test t e rest = omega (arith, length-append (translate_block t) over, length-append (translate_block e) (translate_block rest))
  where
    over : List Instruction
    over = goto (size e) ∷ (translate_block e ++ translate_block rest)

-- from n instructions seen, the lines so parsed lead to m
abbrev Adds : ℕ → ℕ → Parsed → Type 0
Adds n m unmatched = Unit
Adds n m (parsed b behind) = n + (size b + size_behind behind) ≡ m

if-adds : (n m : ℕ) (test : Test) (t : Block) (behind : List Behind) → Adds (suc n) m (parsed t behind) → Adds n m (if_with test t behind)
if-adds n m test t [] h = tt
if-adds n m test t (fi_then rest ∷ behind) h = omega (arith, size-then test t rest)
if-adds n m test t (else_then e rest ∷ behind) h = omega (arith, size-else test t e rest)

else-adds : (n m : ℕ) (e : Block) (behind : List Behind) → Adds (suc n) m (parsed e behind) → Adds n m (else_with e behind)
unfolding translate_block
else-adds n m e [] h = tt
else-adds n m e (fi_then rest ∷ behind) h = omega arith
else-adds n m e (else_then o rest ∷ behind) h = tt

line-adds : (n m : ℕ) (s : Seen) (l : Line) (p : Parsed) → ValidLine a_guide l → Adds (next n l s).instructions m p
    → Adds s.instructions m (line_then l p)
unfolding translate_block
line-adds n m s l unmatched f h = tt
line-adds n m s (phrase t) (parsed b behind) f h = h
line-adds n m s (says x) (parsed b behind) f h = omega arith
line-adds n m s (if_line test) (parsed b behind) f h = if-adds s.instructions m test b behind h
line-adds n m s else_line (parsed b behind) f h = else-adds s.instructions m b behind h
line-adds n m s fi_line (parsed b behind) f h = omega arith
line-adds n m s (goto_line k) (parsed b behind) f h = absurd f.ok
line-adds n m s (if_skip_line test k) (parsed b behind) f h = absurd f.ok
line-adds n m s (faulty c) (parsed b behind) f h = h

parse-adds : (book : List Text) (n : ℕ) (s last : Seen) (ls : List Line) → LinesOk a_guide ls → Passes book n s last ls
    → Adds s.instructions last.instructions (parse ls)
unfolding parse translate_block
parse-adds book n s last [] f p = omega (arith, ap (λ (s : Seen). s.instructions) p.1)
parse-adds book n s last (l ∷ ls) f p =
    line-adds n last.instructions s l (parse ls) f.0 (parse-adds book (suc n) (next n l s) last ls f.1 p.1)

-- what the check counted
pub record Counted (book : List Text) (a : Accepted) : Type 0 where
  pub seen : Seen
  pub checked : check_from book 1 nothing_seen a.lines ≡ made seen
  pub count : seen.instructions ≡ length (translate_block (block_of a.lines))
  pub room : length (translate_block (block_of a.lines)) ≤ 512

pub guide-counted : (book : List Text) (text : List ℕ) (a : Accepted) → accept a_guide book text ≡ made a → Counted book a
guide-counted book text a e =
    let h = accepts a_guide book text a e in
    let adds = subst (Adds 0 h.seen.instructions) (accepted-guide book text a e).matched
    (parse-adds book 1 nothing_seen h.seen a.lines h.valid h.passes) in
    let checked = passes-check book 1 nothing_seen h.seen a.lines h.passes in
    record { seen = h.seen; checked = checked; count = omega arith; room = omega (arith, h.room) }

-- "At most 512 instructions"
pub guide-room : (book : List Text) (text : List ℕ) (b : Block) → guide_of book text ≡ made b
    → length (translate_guide b).instructions ≤ 512
unfolding translate_guide
guide-room book text =
    guide-holds (λ b. length (translate_guide b).instructions ≤ 512) book text (λ a e. (guide-counted book text a e).room)
