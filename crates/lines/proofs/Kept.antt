-- What a check that passes has seen meets the rules: good own phrases, at most 32, and at most 512 instructions.
use Prim.Native.Nat.{ℕ, suc, ◌<◌, ◌≤◌}
use native.Mathlib.Omega.{arith}
use mathlib.Core.Path.{◌≡◌, refl, sym, ap, subst, ◌∙◌}
use mathlib.Core.List.{List, [], ◌∷◌}
use mathlib.Core.Bool.{Bool, true, false, cond, ◌&&◌}
use Rattle.std.specs.Prelude.{Option, None, Some}
use Rattle.std.proofs.lemmas.Option.{none-some}
use lib.ListN.{length, length-append}
use lib.Dec.{ltb, eqb}
use borrow.Author.Tests.{ltb-true, eqb-true}
use Rattle.causes.specs.declared.Cause.{Cause}
use Rattle.causes.specs.declared.Cause.TheVariants.{Nesting}
use Rattle.text.specs.Parts.{all}
use Rattle.text.specs.Text.{Text, is_plain}
use Rattle.text.proofs.Tests.{and_parts, all_append}
use Rattle.phrases.specs.Phrases.{is_new}
use Rattle.phrases.proofs.Valid.{PhrasesOk}
use Rattle.phrases.proofs.BookValid.{phrases-more}
use Rattle.lines.specs.declared.Form.{Form}
use Rattle.lines.specs.declared.Form.TheVariants.{Guide}
use Rattle.lines.specs.Line.{Line, phrase, says, if_line, else_line, fi_line, goto_line, if_skip_line, faulty}
use Rattle.lines.specs.Check.{Open, Seen, room_cause, phrase_cause, else_cause, cause_of, one_more_instruction, turn, next}
use Rattle.lines.proofs.Valid.{ValidLine, phrase-ok, LinesOk}
use Rattle.lines.proofs.Passes.{Passes}

-- ---- what no cause says

pub test-passed : (b : Bool) (o : Option Cause) (c : Cause) → cond b o (Some c) ≡ None → (b ≡ true) × (o ≡ None)
test-passed true o c e = (refl, e)
test-passed false o c e = absurd (none-some c (sym e))

pub room-left : (s : Seen) → room_cause s ≡ None → s.instructions < 512
room-left s e = ltb-true s.instructions 512 (test-passed _ _ _ e).0

-- a phrase that has no cause stands before the instructions, is at most the 32nd, and is new
pub phrase-allowed : (book : List Text) (s : Seen) (t : Text) → phrase_cause book s t ≡ None
    → (s.instructions ≡ 0) × (length s.own < 32) × (is_new book s.own t ≡ true)
phrase-allowed book s t e =
    let a = and_parts (eqb s.instructions 0 && ltb (length s.own) 32) (is_new book s.own t) (test-passed _ _ _ e).0 in
    let b = and_parts (eqb s.instructions 0) (ltb (length s.own) 32) a.0 in
    (eqb-true _ _ b.0, ltb-true _ _ b.1, a.1)

-- the innermost if has had no `else`
pub else-allowed : (o : Open) (os : List Open) (room : Option Cause) → else_cause (o ∷ os) room ≡ None
    → (o.turned ≡ false) × (room ≡ None)
else-allowed o os room = go o.turned
  where
    go : (v : Bool) → cond v (Some Nesting) room ≡ None → (v ≡ false) × (room ≡ None)
    go true e = absurd (none-some _ (sym e))
    go false e = (refl, e)

pub else-room : (ifs : List Open) (room : Option Cause) → else_cause ifs room ≡ None → room ≡ None
else-room [] room e = absurd (none-some _ (sym e))
else-room (o ∷ os) room e = (else-allowed o os room e).1

-- ---- what is seen meets the rules, line by line

pub record Kept (book : List Text) (s : Seen) : Type 0 where
  pub phrases : PhrasesOk book [] s.own
  pub plain : all is_plain s.own ≡ true
  pub few : length s.own ≤ 32
  pub room : s.instructions ≤ 512

module _ (form : Form) (book : List Text) where
  -- no more phrases, and one instruction more
  one_more : (s : Seen) (ifs : List Open) → room_cause s ≡ None → Kept book s → Kept book (one_more_instruction ifs s)
  one_more s ifs e h = record { phrases = h.phrases; plain = h.plain; few = h.few; room = room-left s e }

  line_kept : (n : ℕ) (l : Line) (s : Seen) → ValidLine form l → cause_of book s l ≡ None → Kept book s → Kept book (next n l s)
  unfolding all
  line_kept n (phrase t) s v e h =
      let a = phrase-allowed book s t e in
      record {
        phrases = phrases-more book [] s.own t h.phrases (phrase-ok form t v).0 a.2;
        plain = all_append is_plain s.own (t ∷ []) h.plain (rw (phrase-ok form t v).1);
        few = omega (arith, length-append s.own (t ∷ []));
        room = h.room;
      }
  line_kept n (says x) s v e h = one_more s s.ifs e h
  line_kept n (if_line t) s v e h = one_more s _ (test-passed (ltb (length s.ifs) 16) (room_cause s) Nesting e).1 h
  line_kept n else_line s v e h = one_more s (turn s.ifs) (else-room s.ifs (room_cause s) e) h
  line_kept n fi_line s v e h = record { phrases = h.phrases; plain = h.plain; few = h.few; room = h.room }
  line_kept n (goto_line k) s v e h = one_more s s.ifs e h
  line_kept n (if_skip_line t k) s v e h = one_more s s.ifs e h
  line_kept n (faulty c) s v e h = h

  pub lines-kept : (n : ℕ) (s last : Seen) (ls : List Line) → LinesOk form ls → Passes book n s last ls → Kept book s → Kept book last
  lines-kept n s last [] v p h = subst (Kept book) p.1 h
  lines-kept n s last (l ∷ ls) v p h =
      lines-kept (suc n) (next n l s) last ls v.1 p.1 (line_kept n l s v.0 p.0 h)

-- the lines of a guide add no own phrase
module _ (book : List Text) where
  line-own : (n : ℕ) (l : Line) (s : Seen) → ValidLine Guide l → (next n l s).own ≡ s.own
  line-own n (phrase t) s v = absurd v.ok
  line-own n (says x) s v = refl
  line-own n (if_line t) s v = refl
  line-own n else_line s v = refl
  line-own n fi_line s v = refl
  line-own n (goto_line k) s v = refl
  line-own n (if_skip_line t k) s v = refl
  line-own n (faulty c) s v = refl

  pub guide-own : (n : ℕ) (s last : Seen) (ls : List Line) → LinesOk Guide ls → Passes book n s last ls → last.own ≡ s.own
  guide-own n s last [] v p = ap (λ (t : Seen). t.own) (sym p.1)
  guide-own n s last (l ∷ ls) v p = guide-own (suc n) (next n l s) last ls v.1 p.1 ∙ line-own n l s v.0
