-- The check of a text, one line on.
use Prim.Native.Nat.{ℕ, suc, ◌+◌, ◌-◌, ◌≤◌, ◌<◌}
use native.Mathlib.Omega.{arith}
use native.Mathlib.Numerals.{add-one}
use mathlib.Core.Path.{◌≡◌, refl, sym, ap, subst, ◌∙◌}
use mathlib.Core.List.{List, ◌∷◌}
use Rattle.std.specs.Prelude.{None, Result, Ok, Err}
use lib.ListN.{length, take, drop, drop_of_length-le}
use lib.Seq.{drop-cons, drop-drop}
use Rattle.causes.specs.Answers.{refused}
use Rattle.causes.specs.declared.Cause.{Cause}
use Rattle.causes.specs.declared.Cause.TheVariants.{Byte}
use Rattle.text.specs.Parts.{split, until_byte, LF}
use Rattle.text.specs.Text.{Text}
use Rattle.text.proofs.Places.{part-first, part-last}
use Rattle.text.proofs.Splits.{split-some}
use Rattle.phrases.specs.Lookup.{phrase_text, own_texts}
use Rattle.lines.specs.declared.Form.{Form}
use Rattle.lines.specs.declared.Head.{Head}
use Rattle.lines.specs.Line.{line_of, lines_in}
use Rattle.lines.specs.Check.{Seen, nothing_seen, cause_of, next, at_end, check_from, lines_of}
use Rattle.lines.specs.Answers.{head_of}
use Rattle.check_lines.specs.declared.seen.Seen.{Seen as Held}
use Rattle.check_lines.specs.Held.{open_ifs, seen_of, Sound, Holds, Advanced, Passing, line_with, judged}
use Rattle.check_lines.proofs.Heads.{line-alike}
use Rattle.check_lines.proofs.Judged.{judged-ok, judged-err}
use Rattle.check_lines.proofs.OwnFirst.{Front, front-none, front-next}

-- m lines of the text, before the place a, have no cause, and s and the array os are held of them
pub record Passed (form : Form) (book : List Text) (text : List ℕ) (m a : ℕ) (s : Held) (os : List ℕ) : Type 0 where
  pub seen : Seen
  pub holds : Holds seen s os
  pub sound : Sound s os
  pub front : Front text m seen
  pub place : drop m (split LF text) ≡ split LF (drop a text)
  pub few : m ≤ a
  pub rest : check_from book 1 nothing_seen (lines_of form text) ≡ check_from book (m + 1) seen (lines_in form (split LF (drop a text)))

module _ (form : Form) (book : List Text) (text : List ℕ) where
  pub passed_none : (os : List ℕ) → length os ≡ 32
      → Passed form book text 0 0 (record { own = 0; instructions = 0; depth = 0 }) os
  unfolding open_ifs
  passed_none os size = record {
    seen = nothing_seen;
    holds = record { own = refl; rest = refl };
    sound = record { depth = omega arith; size = size };
    front = front-none text;
    place = refl;
    few = omega arith;
    rest = refl;
  }

module _ {form : Form} {book : List Text} {text : List ℕ} {m a : ℕ} {s : Held} {os : List ℕ} (g : Passed form book text m a s os) where
  -- the own phrases that are held by their number
  own_is : g.seen.own ≡ own_texts s.own text
  own_is = g.front.own ∙ ap (λ k. own_texts k text) g.holds.own

  pub own-count : length (own_texts s.own text) ≡ s.own
  own-count = ap length (sym own_is) ∙ g.holds.own

  pub passed-end : length text ≤ a
      → check_from book 1 nothing_seen (lines_of form text) ≡ at_end (open_ifs s.depth os) (seen_of g.seen.own s os)
  unfolding check_from lines_in split
  passed-end h = g.rest ∙ rw (drop_of_length-le text h) (ap (λ t. at_end t.ifs t) (sym g.holds.rest))

  -- the line that starts at a ends at e
  module _ {e : ℕ} (k : e ≡ a + until_byte LF (drop a text)) where
    pub unended : a < length text → e ≡ length text → check_from book 1 nothing_seen (lines_of form text) ≡ refused Byte (m + 1)
    unfolding check_from lines_in
    unended h l =
        let n : e - a ≡ suc (e - (a + 1)) = omega arith in
        g.rest ∙ rw (part-last LF text a e k l, n, drop-cons text a 0 h)

    -- it ends in LF, and r is how the code judges it
    module _ (l : e ≤ length text) (o : e ≡ length text → ⊥) {r : Result Head Cause}
        (c : r ≡ judged book (seen_of (own_texts s.own text) s os) (line_of form (take (e - a) (drop a text)))) where
      abbrev here : List ℕ
      here = take (e - a) (drop a text)

      first : split LF (drop a text) ≡ here ∷ split LF (drop (e + 1) text)
      first = part-first LF text a e k (omega arith)

      seen-is : seen_of (own_texts s.own text) s os ≡ g.seen
      seen-is = ap (λ own. seen_of own s os) (sym own_is) ∙ g.holds.rest

      judged-here : r ≡ judged book g.seen (line_of form here)
      judged-here = c ∙ ap (λ t. judged book t (line_of form here)) seen-is

      pub line_refused : {cause : Cause} → r ≡ Err cause → check_from book 1 nothing_seen (lines_of form text) ≡ refused cause (m + 1)
      unfolding check_from lines_in
      line_refused i =
          let b = judged-err book g.seen (line_of form here) (sym i ∙ judged-here) in
          g.rest ∙ rw (first, (split-some LF (drop (e + 1) text)).2, b, check_from)

      -- with no cause it has the head d
      module _ {d : Head} (i : r ≡ Ok d) where
        no-cause : (cause_of book g.seen (line_of form here) ≡ None) × (Ok d ≡ head_of (line_of form here))
        no-cause = judged-ok book g.seen (line_of form here) (sym i ∙ judged-here)

        pub line-head : Ok d ≡ head_of (line_of form here)
        line-head = no-cause.1

        by-head : cause_of book g.seen (line_with (phrase_text here) d) ≡ None
        by-head = sym ((line-alike form here line-head).cause book g.seen) ∙ no-cause.0

        pub passing : Passing d s os
        passing = record {
          book = book;
          own = g.seen.own;
          text = phrase_text here;
          count = g.holds.own;
          passes = rw g.holds.rest by-head;
        }

        -- what is seen with this line
        abbrev after : Seen → Seen
        after t = next (m + 1) (line_with (phrase_text here) d) t

        seen-after : next (m + 1) (line_of form here) g.seen ≡ after g.seen
        seen-after = (line-alike form here line-head).seen (m + 1) g.seen

        pub line-passed : (q : Held) (qs : List ℕ) → ((x : Text) → Advanced (next (m + 1) (line_with x d)) s os q qs)
            → Passed form book text (m + 1) (e + 1) q qs
        unfolding check_from lines_in
        line-passed q qs w =
            let b : cause_of book g.seen (line_of form here) ≡ None = no-cause.0 in
            let v = w (phrase_text here) in
            record {
              seen = after g.seen;
              holds = subst (λ t. Holds (after t) q qs) g.holds.rest (v.holds g.seen.own g.holds.own);
              sound = v.sound;
              front = rw add-one (front-next text m g.seen g.front book here _ (g.place ∙ first) d by-head);
              place = sym (drop-drop 1 m (split LF text)) ∙ ap (drop 1) (g.place ∙ first);
              few = omega (arith, g.few);
              rest = g.rest ∙ rw (first, (split-some LF (drop (e + 1) text)).2, b, seen-after, add-one (m + 1), check_from);
            }
