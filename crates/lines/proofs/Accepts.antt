-- A whole guide or listing: its lines, when it is accepted, and what its acceptance says of its lines and of its own phrases.
use Prim.Native.Nat.{ℕ, ◌≤◌}
use native.Mathlib.Omega.{arith}
use mathlib.Core.Path.{◌≡◌, refl, subst}
use mathlib.Core.List.{List, [], ◌∷◌, ◌++◌}
use mathlib.Core.Bool.{Bool, true, false, cond}
use lib.ListN.{length}
use lib.Dec.{leb}
use borrow.Author.Tests.{leb-true, le-leb}
use Rattle.causes.specs.Answers.{made, refused}
use Rattle.causes.specs.declared.Cause.TheVariants.{TooLong}
use Rattle.causes.proofs.Results.{never, made-from}
use Rattle.text.specs.Parts.{split, all, LF}
use Rattle.text.specs.Text.{Text, is_plain}
use Rattle.text.proofs.Splits.{other, Some, split-some, split-part}
use Rattle.phrases.proofs.Valid.{PhrasesOk}
use Rattle.lines.specs.declared.Form.{Form}
use Rattle.lines.specs.Line.{line_of, lines_in}
use Rattle.lines.specs.Check.{Seen, nothing_seen, check_from, most_bytes, lines_of, Accepted, check_lines, accept}
use Rattle.lines.proofs.Valid.{LinesOk, lines_ok}
use Rattle.lines.proofs.Passes.{Passes, check-passes, passes-check}
use Rattle.lines.proofs.Kept.{Kept, lines-kept}

-- bytes up to the first LF are a line
pub first-line : (form : Form) (s text : List ℕ) → all (other LF) s ≡ true
    → lines_of form (s ++ LF ∷ text) ≡ line_of form s ∷ lines_of form text
unfolding lines_in
first-line form s text h = rw (split-part LF s text h) (go (split LF text) (split-some LF text))
  where
    go : (ps : List (List ℕ)) → Some ps → lines_in form (s ∷ ps) ≡ line_of form s ∷ lines_in form ps
    go ps (q, qs, e) = rw e

pub record Accepts (form : Form) (book : List Text) (text : List ℕ) (a : Accepted) : Type 0 where
  pub size : length text ≤ most_bytes form
  pub lines : a.lines ≡ lines_of form text
  -- each line is one of the form, and meets the rules of its values
  pub valid : LinesOk form a.lines
  -- what the check has seen at the end
  pub seen : Seen
  pub passes : Passes book 1 nothing_seen seen a.lines
  pub own : a.own ≡ seen.own
  pub phrases : PhrasesOk book [] a.own
  pub plain : all is_plain a.own ≡ true
  pub few : length a.own ≤ 32
  pub room : seen.instructions ≤ 512

module _ (form : Form) (book : List Text) (text : List ℕ) where
  pub accept-read : (s : Seen) → length text ≤ most_bytes form → Passes book 1 nothing_seen s (lines_of form text)
      → accept form book text ≡ made (record { own = s.own; lines = lines_of form text })
  unfolding accept check_lines
  accept-read s h p = rw (le-leb (length text) (most_bytes form) h, passes-check book 1 nothing_seen s (lines_of form text) p)

  pub accepts : (a : Accepted) → accept form book text ≡ made a → Accepts form book text a
  unfolding accept check_lines all
  accepts a e = sized (leb (length text) (most_bytes form)) refl e
    where
      passed : (s : Seen) → length text ≤ most_bytes form → Passes book 1 nothing_seen s (lines_of form text)
          → Accepts form book text (record { own = s.own; lines = lines_of form text })
      passed s h p =
          let valid = lines_ok form (split LF text) in
          let start : Kept book nothing_seen = record { phrases = tt; plain = refl; few = omega arith; room = omega arith } in
          let k = lines-kept form book 1 nothing_seen s (lines_of form text) valid p start in
          record {
            size = h;
            lines = refl;
            valid = valid;
            seen = s;
            passes = p;
            own = refl;
            phrases = k.phrases;
            plain = k.plain;
            few = k.few;
            room = k.room;
          }

      sized : (v : Bool) → leb (length text) (most_bytes form) ≡ v
          → cond v (check_lines book (lines_of form text)) (refused TooLong 0) ≡ made a → Accepts form book text a
      sized true v e =
          let c = made-from (check_from book 1 nothing_seen (lines_of form text)) _ a e in
          let same : record { own = c.0.own; lines = lines_of form text } ≡ a = cc c.2 in
          subst (Accepts form book text) same
          (passed c.0 (leb-true _ _ v) (check-passes book 1 nothing_seen c.0 (lines_of form text) c.1))
      sized false v e = absurd (never e)
