-- The numbers of the own phrases, one line on: a phrase that has no cause stands behind phrases alone, so that its text starts below 4,096.
use Prim.Native.Nat.{ℕ, suc, ◌+◌, ◌-◌, ◌*◌, ◌≤◌, ◌<◌}
use native.Mathlib.Omega.{arith}
use mathlib.Core.Path.{◌≡◌, refl, sym, ap, subst, ◌∙◌}
use mathlib.Core.List.{List, [], ◌∷◌}
use Rattle.std.specs.Prelude.{None, Result, Ok, Err}
use lib.ListN.{length, take, drop, get_or, set, length-set, length-append, length-drop}
use lib.Seq.{get_or-set_same, length-take-le}
use Rattle.causes.specs.declared.Refusal.{Refusal}
use Rattle.text.specs.Parts.{split, until_byte, LF}
use Rattle.text.specs.Text.{Text}
use Rattle.text.proofs.Places.{part-first, at_front}
use Rattle.phrases.specs.Lookup.{book_texts, phrase_text, own_texts}
use Rattle.phrases.specs.Index.{Indexed}
use Rattle.phrases.specs.Own.{own_number, own_text, OwnAt, Listed}
use Rattle.phrases.proofs.Entries.{indexed-count}
use Rattle.phrases.proofs.OwnEntries.{own-there, own-none, index_kept, own-more, kept-none, kept_more}
use Rattle.lines.specs.declared.Form.{Form}
use Rattle.lines.specs.declared.Counts.{Counts}
use Rattle.lines.specs.declared.Head.{Head}
use Rattle.lines.specs.declared.Head.TheVariants as head
use Rattle.lines.specs.Line.{line_of}
use Rattle.lines.specs.Check.{Open, Seen, cause_of, next, at_end}
use Rattle.lines.specs.Answers.{head_of, checked_answer}
use Rattle.lines.proofs.Valid.{phrase-form}
use Rattle.lines.proofs.Kept.{phrase-allowed}
use Rattle.check_lines.specs.declared.seen.Seen.{Seen as Held}
use Rattle.check_lines.specs.Held.{open_ifs, seen_of, line_with, Holds, Advanced, Passing}
use Rattle.check_lines.specs.Numbers.{entered, own_room, Enters, Numbered}
use Rattle.check_lines.proofs.LinesPassed.{Passed}
use Rattle.check_lines.proofs.OwnEntered.{entered-phrase}
use Rattle.check_lines.proofs.PhraseLines.{line-long, line-short, text-part}

-- a refusal accepts nothing
pub not-fine : {r : Refusal} {k : Counts} → Err r ≡ Ok k → ⊥
not-fine e = cc

module _ (form : Form) (book text index : List ℕ) where
  -- no line yet
  pub numbered-none : Indexed index book → 129 + own_room form + length (book_texts book) ≤ length index
      → Numbered form book text index index 0 0 0
  numbered-none i r =
      record {
        indexed = i;
        size = refl;
        room = r;
        numbers = own-none index book text;
        kept = kept-none book index;
        few = omega arith;
        among = omega arith;
        near = λ h. omega arith;
      }

  -- where the check accepts the text, a lookup can be lent what it left
  pub listed-end : {first os : List ℕ} {m a : ℕ} {s : Held} → Numbered form book text first index s.own m a → (t : Seen) → Holds t s os
      → {r : Result Counts Refusal} → r ≡ checked_answer (at_end (open_ifs s.depth os) (seen_of t.own s os)) → (k : Counts) → r ≡ Ok k
      → Listed index book text k.own
  listed-end {os = os} {s = s} v t c e k h = go (open_ifs s.depth os) (sym e ∙ h)
    where
      go : (ifs : List Open) → checked_answer (at_end ifs (seen_of t.own s os)) ≡ Ok k → Listed index book text k.own
      go [] f =
          let i : k.own ≡ length t.own = cc in
          rw (i, c.own) (record { indexed = v.indexed; numbers = v.numbers; few = v.few })
      go (x ∷ ifs) f = absurd (not-fine f)

module _ {form : Form} {book text first index : List ℕ} {m a : ℕ} {s : Held} {os : List ℕ}
    (g : Passed form (book_texts book) text m a s os) (v : Numbered form book text first index s.own m a)
    {e : ℕ} (k : e ≡ a + until_byte LF (drop a text)) (l : e ≤ length text) (o : e ≡ length text → ⊥) where
  abbrev here : List ℕ
  here = take (e - a) (drop a text)

  -- the text of a phrase there
  abbrev words : List ℕ
  words = take (e - (a + 7)) (drop (a + 7) text)

  line-is : get_or (split LF text) m [] ≡ here
  line-is = at_front (split LF text) m ∙ ap (λ ls. get_or ls 0 []) (g.place ∙ part-first LF text a e k (omega arith))

  module _ {d : Head} (z : Ok d ≡ head_of (line_of form here)) (p : Passing d s os) where
    module _ (h : d ≡ head.Phrase) where
      allowed : cause_of p.book (seen_of p.own s os) (line_with p.text head.Phrase) ≡ None
      allowed = subst (λ d. cause_of p.book (seen_of p.own s os) (line_with p.text d) ≡ None) h p.passes

      few : s.own < 32
      few = omega (arith, (phrase-allowed p.book (seen_of p.own s os) p.text allowed).1, p.count)

      -- all lines before it are phrases
      behind-phrases : m ≡ s.own
      behind-phrases =
          let n = ap (λ t. t.instructions) g.holds.rest in
          let i = (phrase-allowed p.book (seen_of p.own s os) p.text allowed).0 in
          (g.front.first (sym n ∙ i)).0 ∙ g.holds.own

      start : a ≤ 72 * 31
      start = omega (arith, v.near behind-phrases, behind-phrases, few)

      -- a guide has no such line
      room : 161 + length (book_texts book) ≤ length index
      room = rw (ap own_room (phrase-form form here (sym z ∙ ap Ok h))) at v.room

      pub enters : Enters s.own a e text index
      enters =
          let t = ap Ok (sym h) ∙ z in
          record {
            place = omega (arith, room, indexed-count index book v.indexed, few);
            near = omega (arith, start);
            start = line-long form text a e (omega arith) l t;
            end = l;
            short = omega (arith, line-short form text a e (omega arith) l t);
          }

      text-is : own_text text s.own ≡ words
      unfolding own_text
      text-is =
          ap (λ j. phrase_text (get_or (split LF text) j [])) (sym behind-phrases)
          ∙ ap phrase_text line-is
          ∙ text-part form text a e (omega arith) l (ap Ok (sym h) ∙ z)

      size : length words ≡ e - (a + 7)
      size = length-take-le (e - (a + 7)) (drop (a + 7) text) (simp length-drop (omega arith))

      abbrev last : List ℕ
      last = set index (129 + length (book_texts book) + s.own) (own_number (a + 7) words)

      last-is : entered d s.own a e text index ≡ last
      last-is =
          entered-phrase s.own a e text index h
          ∙ ap (λ n. set index (129 + n + s.own) (own_number (a + 7) words)) (sym (indexed-count index book v.indexed))

      own_at : OwnAt last book text s.own
      own_at =
          let n : 129 + length (book_texts book) + s.own < length index = omega (arith, room, few) in
          own-there last book text s.own (a + 7) (simp length-set n) enters.near (rw text-is (omega (arith, size, enters)))
          (rw text-is (omega (arith, size, enters))) (rw text-is (ap (λ j. take j (drop (a + 7) text)) size))
          (get_or-set_same index (129 + length (book_texts book) + s.own) _ 0 n ∙ ap (own_number (a + 7)) (sym text-is))

      with-phrase : length (own_texts (suc s.own) text) ≡ suc s.own → Numbered form book text first last (suc s.own) (m + 1) (e + 1)
      with-phrase w =
          record {
            indexed = index_kept index book text s.own _ v.indexed;
            size = simp length-set v.size;
            room = simp length-set v.room;
            numbers = own-more index book text s.own _ v.numbers w own_at;
            kept = kept_more book first index s.own _ few v.kept;
            few = few;
            among = omega (arith, v.among);
            near = λ n. omega (arith, v.near behind-phrases, line-short form text a e (omega arith) l (ap Ok (sym h) ∙ z));
          }

  -- another line
  without : {own : ℕ} {last : List ℕ} → length g.seen.own ≡ own → last ≡ index → Numbered form book text first last own (m + 1) (e + 1)
  without n i =
      rw (i, ← n, g.holds.own)
      (record {
        indexed = v.indexed;
        size = v.size;
        room = v.room;
        numbers = v.numbers;
        kept = v.kept;
        few = v.few;
        among = omega (arith, v.among);
        near = λ h. absurd (omega (arith, v.among));
      })

  -- q and qs are held of the lines with this one, and the own phrases are there
  module _ {q : Held} {qs last : List ℕ} (w : length (own_texts q.own text) ≡ q.own) where
    pub numbered_next : (d : Head) → Ok d ≡ head_of (line_of form here) → Passing d s os
        → ((x : Text) → Advanced (next (m + 1) (line_with x d)) s os q qs) → last ≡ entered d s.own a e text index
        → Numbered form book text first last q.own (m + 1) (e + 1)
    unfolding entered
    numbered_next head.Phrase z p f i =
        let c = ((f []).holds g.seen.own g.holds.own).own in
        let n : q.own ≡ suc s.own = omega (arith, c, length-append g.seen.own ([] ∷ []), g.holds.own) in
        rw (i, last-is z p refl, n) (with-phrase z p refl (rw n at w))
    numbered_next (head.Input r) z p f i = without ((f []).holds g.seen.own g.holds.own).own i
    numbered_next (head.Inputs r n) z p f i = without ((f []).holds g.seen.own g.holds.own).own i
    numbered_next head.Print z p f i = without ((f []).holds g.seen.own g.holds.own).own i
    numbered_next head.Printex z p f i = without ((f []).holds g.seen.own g.holds.own).own i
    numbered_next (head.If t) z p f i = without ((f []).holds g.seen.own g.holds.own).own i
    numbered_next head.Else z p f i = without ((f []).holds g.seen.own g.holds.own).own i
    numbered_next head.Fi z p f i = without ((f []).holds g.seen.own g.holds.own).own i
    numbered_next (head.Goto j) z p f i = without ((f []).holds g.seen.own g.holds.own).own i
    numbered_next (head.IfSkip t j) z p f i = without ((f []).holds g.seen.own g.holds.own).own i
