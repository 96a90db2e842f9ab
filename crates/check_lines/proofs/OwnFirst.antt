-- The own phrases are the texts of the first lines, as long as no line has a cause.
use Prim.Native.Nat.{ℕ, suc, ◌+◌, ◌<◌}
use native.Mathlib.Omega.{arith}
use native.Mathlib.Numerals.{add-one}
use mathlib.Core.Path.{◌≡◌, refl, sym, ap, subst, ◌∙◌}
use mathlib.Core.List.{List, [], ◌∷◌, ◌++◌}
use Rattle.std.specs.Prelude.{None}
use Rattle.std.proofs.lemmas.Option.{none-some}
use lib.ListN.{length, drop, get_or, length-drop, length-append}
use lib.Seq.{drop-drop}
use Rattle.causes.specs.Answers.{made}
use Rattle.causes.specs.declared.Cause.TheVariants.{Byte, Nesting}
use Rattle.text.specs.Parts.{split, LF}
use Rattle.text.specs.Text.{Text}
use Rattle.text.proofs.Places.{at_front}
use Rattle.phrases.specs.Lookup.{phrase_text, own_texts}
use Rattle.phrases.proofs.Texts.{own-texts-more}
use Rattle.lines.specs.declared.Form.{Form}
use Rattle.lines.specs.declared.Head.{Head}
use Rattle.lines.specs.declared.Head.TheVariants as head
use Rattle.lines.specs.Line.{line_of, lines_in}
use Rattle.lines.specs.Check.{Open, Seen, nothing_seen, cause_of, fi_cause, one_more_instruction, turn, next, check_from, lines_of}
use Rattle.lines.proofs.Passes.{Passes, check-passes}
use Rattle.lines.proofs.Kept.{phrase-allowed}
use Rattle.check_lines.specs.Held.{line_with}
use Rattle.check_lines.proofs.Heads.{line-alike}
use Rattle.check_lines.proofs.Judged.{has-head}

-- t is seen in the first m lines of the text
pub record Front (text : List ℕ) (m : ℕ) (t : Seen) : Type 0 where
  pub own : t.own ≡ own_texts (length t.own) text
  -- lines with no instruction are phrases
  pub first : t.instructions ≡ 0 → (m ≡ length t.own) × (t.ifs ≡ [])

pub front-none : (text : List ℕ) → Front text 0 nothing_seen
unfolding own_texts
front-none text = record { own = refl; first = λ e. (refl, refl) }

module _ (text : List ℕ) (m : ℕ) (t : Seen) (f : Front text m t) where
  -- line m
  module _ (p : List ℕ) (ps : List (List ℕ)) (at : drop m (split LF text) ≡ p ∷ ps) where
    line-there : m < length (split LF text)
    line-there = omega (arith, rw length-drop at (ap length at))

    line-is : get_or (split LF text) m [] ≡ p
    line-is = at_front (split LF text) m ∙ ap (λ ls. get_or ls 0 []) at

    phrase-next : m ≡ length t.own → t.own ++ (phrase_text p ∷ []) ≡ own_texts (length (t.own ++ (phrase_text p ∷ []))) text
    phrase-next e =
        let n : length (t.own ++ (phrase_text p ∷ [])) ≡ m + 1 = omega (arith, length-append t.own (phrase_text p ∷ [])) in
        let o : t.own ≡ own_texts m text = f.own ∙ ap (λ k. own_texts k text) (sym e) in
        rw (n, own-texts-more m text line-there, line-is) (ap (λ ts. ts ++ (phrase_text p ∷ [])) o)

  counted : (ifs : List Open) → Front text (suc m) (one_more_instruction ifs t)
  counted ifs = record { own = f.own; first = λ e. absurd (omega arith) }

  fi-inside : fi_cause t.ifs ≡ None → t.ifs ≡ [] → ⊥
  fi-inside c e = none-some Nesting (sym c ∙ ap fi_cause e)

  pub front-next : (book : List Text) (p : List ℕ) (ps : List (List ℕ)) → drop m (split LF text) ≡ p ∷ ps → (h : Head)
      → cause_of book t (line_with (phrase_text p) h) ≡ None → Front text (suc m) (next (suc m) (line_with (phrase_text p) h) t)
  front-next book p ps at head.Phrase c =
      let a = phrase-allowed book t (phrase_text p) c in
      let k = f.first a.0 in
      record {
        own = phrase-next p ps at k.0;
        first = λ e. (omega (arith, length-append t.own (phrase_text p ∷ []), k.0), k.1);
      }
  front-next book p ps at (head.Input r) c = counted t.ifs
  front-next book p ps at (head.Inputs r n) c = counted t.ifs
  front-next book p ps at head.Print c = counted t.ifs
  front-next book p ps at head.Printex c = counted t.ifs
  front-next book p ps at (head.If x) c = counted _
  front-next book p ps at head.Else c = counted (turn t.ifs)
  front-next book p ps at head.Fi c = record { own = f.own; first = λ e. absurd (fi-inside c (f.first e).1) }
  front-next book p ps at (head.Goto k) c = counted t.ifs
  front-next book p ps at (head.IfSkip x k) c = counted t.ifs

-- so are those of a whole text
module _ (form : Form) (book : List Text) (text : List ℕ) where
  lines-front : (m : ℕ) (t last : Seen) (ps : List (List ℕ)) → drop m (split LF text) ≡ ps → Front text m t
      → Passes book (suc m) t last (lines_in form ps) → last.own ≡ own_texts (length last.own) text
  unfolding lines_in
  lines-front m t last [] at f p = subst (λ t. t.own ≡ own_texts (length t.own) text) p.1 f.own
  lines-front m t last ([] ∷ []) at f p = subst (λ t. t.own ≡ own_texts (length t.own) text) p.1 f.own
  lines-front m t last ((b ∷ s) ∷ []) at f p = absurd (none-some Byte (sym p.0))
  lines-front m t last (s ∷ q ∷ ps) at f p =
      let h = has-head book t (line_of form s) p.0 in
      let a = line-alike form s h.is in
      let g = front-next text m t f book s (q ∷ ps) at h.head (sym (a.cause book t) ∙ p.0) in
      let d : drop (suc m) (split LF text) ≡ q ∷ ps = rw add-one at (sym (drop-drop 1 m (split LF text)) ∙ ap (drop 1) at) in
      lines-front (suc m) (next (suc m) (line_of form s) t) last (q ∷ ps) d (rw (a.seen (suc m) t) g) p.1

  pub own_first : (s : Seen) → check_from book 1 nothing_seen (lines_of form text) ≡ made s → s.own ≡ own_texts (length s.own) text
  own_first s e =
      lines-front 0 nothing_seen s (split LF text) refl (front-none text) (check-passes book 1 nothing_seen s (lines_of form text) e)
