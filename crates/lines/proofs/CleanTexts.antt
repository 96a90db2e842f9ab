-- A text whose check passes has no line with one of the causes 3, 4 and 5.
use Prim.Native.Nat.{ℕ, suc, ◌+◌, ◌-◌, ◌<◌}
use mathlib.Core.Path.{◌≡◌, refl, sym, ap, ◌∙◌}
use mathlib.Core.List.{List, [], ◌∷◌}
use mathlib.Core.Bool.{Bool, true, false, cond}
use Rattle.std.specs.Prelude.{None}
use Rattle.std.proofs.lemmas.Option.{none-some}
use lib.ListN.{length, take, drop}
use lib.Dec.{leb}
use Rattle.causes.specs.Answers.{made, refused}
use Rattle.causes.specs.declared.Cause.TheVariants.{TooLong}
use Rattle.causes.proofs.Results.{never}
use Rattle.text.specs.Parts.{split, until_byte, all, LF}
use Rattle.text.specs.Text.{Text}
use Rattle.text.proofs.Tests.{all_first, all_rest, all_cons}
use Rattle.text.proofs.Places.{part-first}
use Rattle.text.proofs.Splits.{Some as Parted, split-some}
use Rattle.lines.specs.declared.Form.{Form}
use Rattle.lines.specs.Line.{Line, phrase, says, if_line, else_line, fi_line, goto_line, if_skip_line, faulty, line_of, lines_in}
use Rattle.lines.specs.Check.{Seen, nothing_seen, cause_of, next, check_from, most_bytes, lines_of}
use Rattle.lines.specs.Answers.{seen_in}
use Rattle.lines.specs.Clean.{is_clean, Clean}
use Rattle.lines.proofs.Passes.{Passes, check-passes}

-- a line with no cause has none by itself
pub line_clean : (book : List Text) (s : Seen) (l : Line) → cause_of book s l ≡ None → is_clean l ≡ true
line_clean book s (phrase t) h = refl
line_clean book s (says x) h = refl
line_clean book s (if_line t) h = refl
line_clean book s else_line h = refl
line_clean book s fi_line h = refl
line_clean book s (goto_line k) h = refl
line_clean book s (if_skip_line t k) h = refl
line_clean book s (faulty c) h = absurd (none-some c (sym h))

pub passes-clean : (book : List Text) (n : ℕ) (s last : Seen) (ls : List Line) → Passes book n s last ls → all is_clean ls ≡ true
unfolding all
passes-clean book n s last [] p = refl
passes-clean book n s last (l ∷ ls) p =
    all_cons is_clean l ls (line_clean book s l p.0) (passes-clean book (suc n) (next n l s) last ls p.1)

module _ (form : Form) (book : List Text) (text : List ℕ) where
  pub check-clean : (s : Seen) → check_from book 1 nothing_seen (lines_of form text) ≡ made s → Clean form text
  check-clean s e = passes-clean book 1 nothing_seen s (lines_of form text) (check-passes book 1 nothing_seen s (lines_of form text) e)

  pub seen_clean : (s : Seen) → seen_in form book text ≡ made s → Clean form text
  unfolding seen_in
  seen_clean s = go (leb (length text) (most_bytes form))
    where
      go : (v : Bool) → cond v (check_from book 1 nothing_seen (lines_of form text)) (refused TooLong 0) ≡ made s → Clean form text
      go true e = check-clean s e
      go false e = absurd (never e)

-- the line that starts at a ends at e, in LF
module _ (form : Form) (text : List ℕ) (a e : ℕ) (k : e ≡ a + until_byte LF (drop a text)) (l : e < length text) where
  pub lines_next : lines_of form (drop a text) ≡ line_of form (take (e - a) (drop a text)) ∷ lines_of form (drop (e + 1) text)
  unfolding lines_in
  lines_next = ap (lines_in form) (part-first LF text a e k l) ∙ go (split LF (drop (e + 1) text)) (split-some LF (drop (e + 1) text))
    where
      go : (ps : List (List ℕ)) → Parted ps
          → lines_in form (take (e - a) (drop a text) ∷ ps) ≡ line_of form (take (e - a) (drop a text)) ∷ lines_in form ps
      go ps (q, qs, e) = rw e

  module _ (c : Clean form (drop a text)) where
    both : all is_clean (line_of form (take (e - a) (drop a text)) ∷ lines_of form (drop (e + 1) text)) ≡ true
    both = ap (all is_clean) (sym lines_next) ∙ c

    -- it is no fault
    pub clean_line : is_clean (line_of form (take (e - a) (drop a text))) ≡ true
    clean_line = all_first is_clean _ _ both

    -- nor are those behind it
    pub clean-behind : Clean form (drop (e + 1) text)
    clean-behind = all_rest is_clean _ _ both
