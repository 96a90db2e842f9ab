-- A line that is no fault begins with its kind's word, so that two of its bytes tell the kind, and the word's length where its fields begin.
use Prim.Native.Nat.{ℕ, ◌+◌, ◌<◌}
use native.Mathlib.Omega.{arith}
use mathlib.Core.Path.{◌≡◌, refl, sym, ap, ◌∙◌}
use mathlib.Core.List.{List, []}
use mathlib.Core.Bool.{Bool, true, cond, false≢true}
use lib.ListN.{length, take, get_or}
use Rattle.std.specs.Prelude.{Some, option_map}
use Rattle.std.proofs.lemmas.Option.{same_Some}
use lib.Dec.{eqb}
use borrow.Author.Tests.{ne_eqb}
use Rattle.text.specs.Parts.{split, join, comma, parts_from, until_byte, same}
use Rattle.text.proofs.Splits.{join-split}
use Rattle.lines.specs.declared.Form.{Form}
use Rattle.lines.specs.declared.Kind.{Kind}
use Rattle.lines.specs.declared.Kind.TheVariants.{Phrase, Input, Inputs, Print, Printex, If, Else, Fi, Goto}
use Rattle.lines.specs.Line.{Line, line_of}
use Rattle.lines.specs.Words.{kind_of, fields_at, line_of_kind}
use Rattle.lines.specs.Clean.{is_clean, CleanLine}
use Rattle.lines.proofs.FieldsRead.{
  ReadAs,
  as-fault,
  as-phrase,
  as-input,
  as-inputs,
  as-print,
  as-printex,
  as-if,
  as-else,
  as-fi,
  as-goto,
  as-if-skip,
  line-read-as,
}
use Rattle.lines.proofs.KindLines.{line-of-kind}
use Rattle.lines.proofs.CleanLines.{bytes-clean}

-- the kind by the second byte, and by whether the sixth is a comma
abbrev kind_by : ℕ → Bool → Kind
kind_by b t =
    cond (eqb b 104) Phrase
    (cond (eqb b 114) (cond t Print Printex)
    (cond (eqb b 110) (cond t Input Inputs)
    (cond (eqb b 102) If
    (cond (eqb b 108) Else
    (cond (eqb b 105) Fi Goto)))))

-- the line s begins with the word w of a kind
pub record Begins (s w : List ℕ) : Type 0 where
  pub told : Some (kind_by (get_or s 1 0) (eqb (get_or s 5 0) comma)) ≡ kind_of w
  pub two : 1 < length s
  pub six-r : get_or s 1 0 ≡ 114 → 5 < length s
  pub six-n : get_or s 1 0 ≡ 110 → 5 < length s
  pub fields : option_map fields_at (kind_of w) ≡ Some (length w + 1)
  pub end : length w ≡ until_byte comma s
  pub front : w ≡ take (length w) s

-- the line of fields that make one
read-begins : {form : Form} {fs : List (List ℕ)} {l : Line} → ReadAs form fs l → is_clean l ≡ true → Begins (join comma fs) (get_or fs 0 [])
unfolding kind_of same join until_byte
read-begins (as-fault c) v = absurd (false≢true v)
read-begins (as-phrase h) v =
    record { told = refl; two = omega arith; six-r = λ e. omega arith; six-n = λ e. omega arith; fields = refl; end = refl; front = refl }
read-begins (as-input r h) v =
    record { told = refl; two = omega arith; six-r = λ e. omega arith; six-n = λ e. omega arith; fields = refl; end = refl; front = refl }
read-begins (as-inputs n r h) v =
    record { told = refl; two = omega arith; six-r = λ e. omega arith; six-n = λ e. omega arith; fields = refl; end = refl; front = refl }
read-begins (as-print h) v =
    record { told = refl; two = omega arith; six-r = λ e. omega arith; six-n = λ e. omega arith; fields = refl; end = refl; front = refl }
read-begins (as-printex h) v =
    record { told = refl; two = omega arith; six-r = λ e. omega arith; six-n = λ e. omega arith; fields = refl; end = refl; front = refl }
read-begins (as-if r o c) v =
    record { told = refl; two = omega arith; six-r = λ e. omega arith; six-n = λ e. omega arith; fields = refl; end = refl; front = refl }
read-begins as-else v =
    record { told = refl; two = omega arith; six-r = λ e. omega arith; six-n = λ e. omega arith; fields = refl; end = refl; front = refl }
read-begins as-fi v =
    record { told = refl; two = omega arith; six-r = λ e. omega arith; six-n = λ e. omega arith; fields = refl; end = refl; front = refl }
read-begins (as-goto k) v =
    record { told = refl; two = omega arith; six-r = λ e. omega arith; six-n = λ e. omega arith; fields = refl; end = refl; front = refl }
read-begins (as-if-skip r o c k) v =
    record { told = refl; two = omega arith; six-r = λ e. omega arith; six-n = λ e. omega arith; fields = refl; end = refl; front = refl }

-- a line that is no fault begins so
pub begins : (s : List ℕ) → CleanLine s → Begins s (get_or (split comma s) 0 [])
begins s (form, v) = rw (join-split comma s) at (read-begins (line-read-as form s) v)

-- the kind by the second byte, where it tells it
pub kind-two : (s w : List ℕ) (b : ℕ) → Begins s w → get_or s 1 0 ≡ b → Some (kind_by b (eqb (get_or s 5 0) comma)) ≡ kind_of w
kind-two s w b h e = ap (λ b. Some (kind_by b (eqb (get_or s 5 0) comma))) (sym e) ∙ h.told

-- by the sixth byte too
pub kind-six : (s w : List ℕ) (b : ℕ) {t : Bool} → Begins s w → get_or s 1 0 ≡ b → eqb (get_or s 5 0) comma ≡ t → Some (kind_by b t) ≡ kind_of w
kind-six s w b h e f = ap (λ t. Some (kind_by b t)) (sym f) ∙ kind-two s w b h e

-- by any other second byte
pub kind-goto : (s w : List ℕ) → Begins s w → (get_or s 1 0 ≡ 104 → ⊥) → (get_or s 1 0 ≡ 114 → ⊥) → (get_or s 1 0 ≡ 110 → ⊥)
    → (get_or s 1 0 ≡ 102 → ⊥) → (get_or s 1 0 ≡ 108 → ⊥) → (get_or s 1 0 ≡ 105 → ⊥) → Some Goto ≡ kind_of w
kind-goto s w h a b c d e f =
    simp (ne_eqb _ _ a, ne_eqb _ _ b, ne_eqb _ _ c, ne_eqb _ _ d, ne_eqb _ _ e, ne_eqb _ _ f) at h.told

-- a line by its kind, whose fields begin behind the kind's word
pub line-by-word : (form : Form) (s : List ℕ) (k : Kind) (a : ℕ) → is_clean (line_of form s) ≡ true → Some k ≡ kind_of (get_or (split comma s) 0 [])
    → a ≡ fields_at k → line_of form s ≡ line_of_kind form k (parts_from comma a s)
line-by-word form s k a v e f =
    let b = begins s (form, v) in
    let n : a ≡ length (get_or (split comma s) 0 []) + 1 = f ∙ same_Some _ _ (ap (option_map fields_at) e ∙ b.fields) in
    rw n (line-of-kind form s _ (Some k) _ (bytes-clean form s v) (omega (arith, b.end)) b.front e)
