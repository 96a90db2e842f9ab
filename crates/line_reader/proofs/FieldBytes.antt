-- Fields that make a line have allowed bytes alone, so that a line is what its fields make, but where they make none.
use Prim.Native.Nat.{ℕ}
use mathlib.Core.Path.{◌≡◌, refl, sym, ap, ◌∙◌}
use mathlib.Core.List.{List}
use mathlib.Core.Bool.{Bool, true, false, cond, ◌&&◌, false≢true}
use native.Mathlib.Omega.{arith}
use lib.IntN.{ℤ}
use Rattle.std.specs.Prelude.{Option, None, Some, Result, Ok, Err, MatchResult, IsErrAnd}
use Rattle.std.proofs.lemmas.Option.{none-some}
use Rattle.causes.specs.declared.Cause.{Cause}
use Rattle.causes.specs.declared.Cause.TheVariants.{Byte}
use Rattle.text.specs.Quoted.{bytes}
use Rattle.text.specs.Parts.{split, comma, same, all}
use Rattle.text.specs.Text.{allowed, text_byte, allowed_line, is_text, is_plain}
use Rattle.text.specs.Utf8.{begins, letters_behind, well_formed}
use Rattle.text.proofs.Fields.{well-split}
use Rattle.decimals.specs.Number.{natural, constant}
use Rattle.text.proofs.Tests.{and_parts, and_both, all_so, each-so, same-equal}
use Rattle.text.proofs.Splits.{join-all, join-split}
use Rattle.text.proofs.Bytes.{text-allowed, text-bytes, text-letters}
use Rattle.decimals.proofs.DecimalBytes.{decimalℕ-bytes, decimal-bytes, decimalℕ-letters, decimal-letters}
use Rattle.decimals.proofs.Decimals.{natural-written}
use Rattle.decimals.proofs.Constants.{constant-written}
use Rattle.transcript.specs.declared.Op.{Op}
use Rattle.lines.specs.declared.Form.{Form}
use Rattle.lines.specs.declared.Head.{Head}
use Rattle.lines.specs.Line.{Line, phrase, says, if_line, else_line, fi_line, goto_line, if_skip_line, faulty, operator, fields_line, line_of}
use Rattle.lines.specs.Answers.{head_of}
use Rattle.lines.specs.Clean.{is_clean}
use Rattle.lines.proofs.FieldsRead.{ReadAs, as-fault, as-phrase, as-input, as-inputs, as-print, as-printex}
use Rattle.lines.proofs.FieldsRead.{as-if, as-else, as-fi, as-goto, as-if-skip, fields-read-as}

-- ---- the bytes of fields

-- bytes of a text, and whole letters
abbrev good : List ℕ → Bool
good f = all text_byte f && well_formed f

text-good : (t : List ℕ) → is_text t ≡ true → good t ≡ true
text-good t h = and_both (text-bytes t h) (text-letters t h)

natural-good : (limit : ℕ) (s : List ℕ) (n : ℕ) → natural limit s ≡ Some n → good s ≡ true
natural-good limit s n h = ap good (sym (natural-written limit s n h).0) ∙ and_both (decimalℕ-bytes n) (decimalℕ-letters n)

constant-good : (s : List ℕ) (z : ℤ) → constant s ≡ Some z → good s ≡ true
constant-good s z h = ap good (sym (constant-written s z h).0) ∙ and_both (decimal-bytes z) (decimal-letters z)

word_good : (w v : List ℕ) (x op : Op) (m : Option Op) → good v ≡ true → (m ≡ Some op → good w ≡ true)
    → cond (same w v) (Some x) m ≡ Some op → good w ≡ true
word_good w v x op m g k = go (same w v) refl
  where
    go : (b : Bool) → same w v ≡ b → cond b (Some x) m ≡ Some op → good w ≡ true
    go true e h = ap good (same-equal w v e) ∙ g
    go false e h = k h

operator-good : (w : List ℕ) (op : Op) → operator w ≡ Some op → good w ≡ true
unfolding operator all well_formed letters_behind begins
operator-good w op =
    word_good w (bytes "eq") _ op _ refl
    (word_good w (bytes "ne") _ op _ refl
    (word_good w (bytes "lt") _ op _ refl
    (word_good w (bytes "le") _ op _ refl
    (word_good w (bytes "gt") _ op _ refl
    (word_good w (bytes "ge") _ op None refl (λ h. absurd (none-some op h)))))))

read-good : {form : Form} {fs : List (List ℕ)} {l : Line} → ReadAs form fs l → is_clean l ≡ true → all good fs ≡ true
unfolding all well_formed letters_behind begins
read-good (as-fault c) h = absurd (false≢true h)
read-good (as-phrase {t = t} h) k = rw (text-good t (and_parts (is_text t) (is_plain t) h).0)
read-good (as-input r t) h = rw (natural-good 31 _ _ r, text-good _ t)
read-good (as-inputs {t = t} {os = os} n r v) h =
    let k = and_parts (is_text t) (all is_text os) v in
    rw (natural-good 31 _ _ r, text-good t k.0, all_so is_text good text-good os k.1)
read-good (as-print t) h = rw (text-good _ t)
read-good (as-printex t) h = rw (text-good _ t)
read-good (as-if r o c) h = rw (natural-good 31 _ _ r, operator-good _ _ o, constant-good _ _ c)
read-good as-else h = refl
read-good as-fi h = refl
read-good (as-goto k) h = rw (natural-good 511 _ _ k)
read-good (as-if-skip r o c k) h = rw (natural-good 31 _ _ r, operator-good _ _ o, constant-good _ _ c, natural-good 511 _ _ k)

-- ---- a line by its fields

module _ (form : Form) (s : List ℕ) where
  fields-allowed : is_clean (fields_line form (split comma s)) ≡ true → allowed_line s ≡ true
  fields-allowed h =
      let g = read-good (fields-read-as form s) h in
      let b = all_so good (all text_byte) (λ f k. (and_parts (all text_byte f) (well_formed f) k).0) (split comma s) g in
      let w = all_so good well_formed (λ f k. (and_parts (all text_byte f) (well_formed f) k).1) (split comma s) g in
      let a = each-so text_byte allowed text-allowed (split comma s) b in
      and_both (ap (all allowed) (sym (join-split comma s)) ∙ join-all comma allowed refl (split comma s) a)
      (well-split comma (omega arith) s ∙ w)

  pub line-by-fields : is_clean (fields_line form (split comma s)) ≡ true → line_of form s ≡ fields_line form (split comma s)
  unfolding line_of
  line-by-fields h = rw (fields-allowed h)

  -- a byte that is not allowed comes before a fault of the fields
  pub line-judged : head_of (line_of form s) ≡ cond (allowed_line s) (head_of (fields_line form (split comma s))) (Err Byte)
  unfolding line_of
  line-judged = go (allowed_line s)
    where
      go : (b : Bool) → head_of (cond b (fields_line form (split comma s)) (faulty Byte))
          ≡ cond b (head_of (fields_line form (split comma s))) (Err Byte)
      go true = refl
      go false = refl

-- a line that has a head is no fault
pub head-clean : (l : Line) {h : Head} → Ok h ≡ head_of l → is_clean l ≡ true
head-clean (phrase t) e = refl
head-clean (says x) e = refl
head-clean (if_line t) e = refl
head-clean else_line e = refl
head-clean fi_line e = refl
head-clean (goto_line j) e = refl
head-clean (if_skip_line t j) e = refl
head-clean (faulty c) e = cc

-- what its fields make, with the cause that comes first
module _ (form : Form) (s : List ℕ) where
  pub by-fields : {q r : Result Head Cause} (P : Cause → Cause → Type 0) → q ≡ head_of (fields_line form (split comma s))
      → MatchResult q (λ h. r ≡ Ok h) (λ c. IsErrAnd r (P c)) → ((c d : Cause) → P c d → d ≡ cond (allowed_line s) c Byte)
      → r ≡ head_of (line_of form s)
  by-fields {q = Ok h} {r = r} P e k f = k ∙ e ∙ ap head_of (sym (line-by-fields form s (head-clean (fields_line form (split comma s)) e)))
  by-fields {q = Err c} {r = Ok h} P e k f = absurd k
  by-fields {q = Err c} {r = Err d} P e k f =
      ap Err (f c d k) ∙ go (allowed_line s) ∙ ap (λ h. cond (allowed_line s) h (Err Byte)) e ∙ sym (line-judged form s)
    where
      go : (b : Bool) → ◌≡◌ {A = Result Head Cause} (Err (cond b c Byte)) (cond b (Err c) (Err Byte))
      go true = refl
      go false = refl
