-- What an accepted guide is: its lines are those of one block, its values meet the rules, and it has no own phrases.
use Prim.Native.Nat.{ℕ, suc}
use mathlib.Core.Path.{◌≡◌, refl, sym, ◌∙◌}
use mathlib.Core.List.{List, [], ◌∷◌}
use mathlib.Core.Bool.{false, true≢false}
use Rattle.std.specs.Prelude.{None, Ok}
use Rattle.std.proofs.lemmas.Option.{none-some}
use lib.ListN.{drop}
use Rattle.causes.specs.Answers.{Result, made, refused}
use Rattle.text.specs.Text.{Text}
use Rattle.transcript.specs.declared.Test.{Test}
use Rattle.transcript.proofs.Valid.{TestOk}
use Rattle.lines.specs.declared.Form.TheVariants.{Guide as a_guide}
use Rattle.lines.specs.Line.{Line, phrase, says, if_line, else_line, fi_line, goto_line, if_skip_line, faulty}
use Rattle.lines.specs.Check.{Open, Seen, nothing_seen, room_cause, else_cause, fi_cause, cause_of, turn, next, Accepted, accept}
use Rattle.lines.proofs.Valid.{ValidLine, LinesOk}
use Rattle.lines.proofs.Passes.{Passes}
use Rattle.lines.proofs.Kept.{else-allowed, guide-own}
use Rattle.lines.proofs.Accepts.{accepts}
use Rattle.lines.specs.declared.Counts.{Counts}
use Rattle.lines.specs.Answers.{seen_in, checked_answer}
use Rattle.lines.specs.Clean.{Clean}
use Rattle.lines.proofs.CleanTexts.{passes-clean, seen_clean}
use Rattle.guide.specs.Block.{
  Block,
  empty,
  Behind,
  fi_then,
  else_then,
  Parsed,
  unmatched,
  parsed,
  if_with,
  else_with,
  line_then,
  parse,
  first_block,
  block_of,
}
use Rattle.guide.proofs.Valid.{BlockOk}
use Rattle.guide.proofs.Blocks.{block_lines, parse-sound}

-- ---- the ifs that the check has open are those that `parse` finds closed behind, and each block meets the rules

-- for each open if there is a `fi`, and an `else` before it only where it has had none
abbrev BehindOk : List Open → List Behind → Type 0
BehindOk [] [] = Unit
BehindOk [] (f ∷ behind) = ⊥
BehindOk (o ∷ os) [] = ⊥
BehindOk (o ∷ os) (fi_then rest ∷ behind) = BlockOk rest × BehindOk os behind
BehindOk (o ∷ os) (else_then e rest ∷ behind) = (o.turned ≡ false) × BlockOk e × BlockOk rest × BehindOk os behind

abbrev ParsedOk : List Open → Parsed → Type 0
ParsedOk ifs unmatched = ⊥
ParsedOk ifs (parsed b behind) = BlockOk b × BehindOk ifs behind

if_ok : (n : ℕ) (test : Test) (t : Block) (ifs : List Open) (behind : List Behind) → TestOk test
    → ParsedOk (record { line = n; turned = false } ∷ ifs) (parsed t behind) → ParsedOk ifs (if_with test t behind)
if_ok n test t ifs [] v h = absurd h.1
if_ok n test t ifs (fi_then rest ∷ behind) v h = ((v, h.0, h.1.0), h.1.1)
if_ok n test t ifs (else_then e rest ∷ behind) v h = ((v, h.0, h.1.1, h.1.2), h.1.3)

else-ok : (e : Block) (s : Seen) (ifs : List Open) (behind : List Behind) → else_cause ifs (room_cause s) ≡ None
    → ParsedOk (turn ifs) (parsed e behind) → ParsedOk ifs (else_with e behind)
else-ok e s [] behind c h = absurd (none-some _ (sym c))
else-ok e s (o ∷ os) [] c h = absurd h.1
else-ok e s (o ∷ os) (fi_then rest ∷ behind) c h = (tt, ((else-allowed o os (room_cause s) c).0, h.0, h.1.0, h.1.1))
else-ok e s (o ∷ os) (else_then e' rest ∷ behind) c h = absurd (true≢false h.1.0)

fi-ok : (b : Block) (ifs : List Open) (behind : List Behind) → fi_cause ifs ≡ None → ParsedOk (drop 1 ifs) (parsed b behind)
    → ParsedOk ifs (parsed empty (fi_then b ∷ behind))
fi-ok b [] behind c h = absurd (none-some _ (sym c))
fi-ok b (o ∷ os) behind c h = (tt, h)

line_ok : (book : List Text) (n : ℕ) (s : Seen) (l : Line) (p : Parsed) → ValidLine a_guide l → cause_of book s l ≡ None
    → ParsedOk (next n l s).ifs p → ParsedOk s.ifs (line_then l p)
line_ok book n s l unmatched v c h = h
line_ok book n s (phrase t) (parsed b behind) v c h = h
line_ok book n s (says x) (parsed b behind) v c h = ((v.ok, h.0), h.1)
line_ok book n s (if_line test) (parsed b behind) v c h = if_ok n test b s.ifs behind v.ok h
line_ok book n s else_line (parsed b behind) v c h = else-ok b s s.ifs behind c h
line_ok book n s fi_line (parsed b behind) v c h = fi-ok b s.ifs behind c h
line_ok book n s (goto_line k) (parsed b behind) v c h = h
line_ok book n s (if_skip_line test k) (parsed b behind) v c h = h
line_ok book n s (faulty x) (parsed b behind) v c h = h

-- from any line on
parse-ok : (book : List Text) (n : ℕ) (s last : Seen) (ls : List Line) → LinesOk a_guide ls → Passes book n s last ls
    → ParsedOk s.ifs (parse ls)
unfolding parse
parse-ok book n s last [] v p = (tt, rw p.0 tt)
parse-ok book n s last (l ∷ ls) v p =
    line_ok book n s l (parse ls) v.0 p.0 (parse-ok book (suc n) (next n l s) last ls v.1 p.1)

-- where no if is open, nothing follows the block
closed : (p : Parsed) → ParsedOk [] p → (p ≡ parsed (first_block p) []) × BlockOk (first_block p)
closed unmatched h = absurd h
closed (parsed b []) h = (refl, h.0)
closed (parsed b (f ∷ behind)) h = absurd h.1

-- ---- the whole

pub record AcceptedGuide (book : List Text) (a : Accepted) : Type 0 where
  pub matched : parse a.lines ≡ parsed (block_of a.lines) []
  pub printed : block_lines (block_of a.lines) ≡ a.lines
  pub values : BlockOk (block_of a.lines)
  pub own : a.own ≡ []

pub accepted-guide : (book : List Text) (text : List ℕ) (a : Accepted) → accept a_guide book text ≡ made a → AcceptedGuide book a
unfolding block_of
accepted-guide book text a e =
    let h = accepts a_guide book text a e in
    let block = closed (parse a.lines) (parse-ok book 1 nothing_seen h.seen a.lines h.valid h.passes) in
    record {
      matched = block.0;
      printed = parse-sound a.lines (block_of a.lines) h.valid (passes-clean book 1 nothing_seen h.seen a.lines h.passes) block.0;
      values = block.1;
      own = h.own ∙ guide-own book 1 nothing_seen h.seen a.lines h.valid h.passes;
    }

-- no line of a guide that the check accepts is a fault
pub accepted-clean : (book : List Text) (g : List ℕ) (c : Counts) → checked_answer (seen_in a_guide book g) ≡ Ok c
    → Clean a_guide g
accepted-clean book g c = go (seen_in a_guide book g) refl
  where
    go : (r : Result Seen) → seen_in a_guide book g ≡ r → checked_answer r ≡ Ok c → Clean a_guide g
    go (made s) e h = seen_clean a_guide book g s e
    go (refused cause place) e h = cc
