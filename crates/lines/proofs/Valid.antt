-- A line that is no fault is a line of its form and meets the rules of its values, and so do the lines of a text.
use Prim.Native.Nat.{ℕ, ◌<◌}
use native.Mathlib.Omega.{arith}
use mathlib.Core.Path.{◌≡◌, refl}
use mathlib.Core.List.{List, [], ◌∷◌}
use lib.ListN.{length}
use Rattle.std.specs.Prelude.{Ok}
use Rattle.text.specs.Parts.{all}
use mathlib.Core.Bool.{true}
use Rattle.text.specs.Text.{Text, is_text, is_plain}
use Rattle.text.proofs.Tests.{and_parts, in-range}
use Rattle.decimals.proofs.Decimals.{natural-written}
use Rattle.decimals.proofs.Constants.{constant-written}
use Rattle.text.proofs.Valid.{TextOk}
use Rattle.transcript.specs.Statement.{input, inputs, print, printex}
use Rattle.transcript.proofs.Valid.{StatementOk, TestOk}
use Rattle.lines.specs.declared.Form.{Form}
use Rattle.lines.specs.declared.Form.TheVariants.{Guide, Listing}
use Rattle.lines.specs.Line.{Line, phrase, says, if_line, else_line, fi_line, goto_line, if_skip_line, faulty}
use Rattle.lines.specs.declared.Head.TheVariants as head
use Rattle.lines.specs.Line.{line_of, lines_in}
use Rattle.lines.specs.Answers.{head_of}
use Rattle.lines.proofs.FieldsRead.{ReadAs, as-fault, as-phrase, as-input, as-inputs, as-print, as-printex}
use Rattle.lines.proofs.FieldsRead.{as-if, as-else, as-fi, as-goto, as-if-skip, line-read-as}

-- a guide has no `phrase`, no `goto` and no if with a skip; a listing has no if without one, no `else` and no `fi`
abbrev pub LineOk : Form → Line → Type 0
LineOk Guide (phrase t) = ⊥
LineOk Listing (phrase t) = TextOk t × (is_plain t ≡ true)
LineOk form (says x) = StatementOk x
LineOk Guide (if_line t) = TestOk t
LineOk Listing (if_line t) = ⊥
LineOk Guide else_line = Unit
LineOk Listing else_line = ⊥
LineOk Guide fi_line = Unit
LineOk Listing fi_line = ⊥
LineOk Guide (goto_line k) = ⊥
LineOk Listing (goto_line k) = k < 512
LineOk Guide (if_skip_line t k) = ⊥
LineOk Listing (if_skip_line t k) = TestOk t × (k < 512)
LineOk form (faulty c) = Unit

pub record ValidLine (form : Form) (l : Line) : Type 0 where
  pub ok : LineOk form l

pub phrase-ok : (form : Form) (t : Text) → ValidLine form (phrase t) → TextOk t × (is_plain t ≡ true)
phrase-ok Guide t v = absurd v.ok
phrase-ok Listing t v = v.ok

read_ok : {form : Form} {fs : List (List ℕ)} {l : Line} → ReadAs form fs l → LineOk form l
read_ok (as-fault c) = tt
read_ok (as-phrase {t = t} h) = and_parts (is_text t) (is_plain t) h
read_ok (as-input r h) = (omega (arith, (natural-written 31 _ _ r).1), h)
read_ok (as-inputs {t = t} {os = os} n r h) =
    let k = in-range 2 (length os) 8 n in
    let v = and_parts (is_text t) (all is_text os) h in
    (omega (arith, (natural-written 31 _ _ r).1), v.0, k.0, k.1, v.1)
read_ok (as-print h) = h
read_ok (as-printex h) = h
read_ok (as-if r o c) = (omega (arith, (natural-written 31 _ _ r).1), (constant-written _ _ c).1)
read_ok as-else = tt
read_ok as-fi = tt
read_ok (as-goto k) = omega (arith, (natural-written 511 _ _ k).1)
read_ok (as-if-skip r o c k) =
    ((omega (arith, (natural-written 31 _ _ r).1), (constant-written _ _ c).1), omega (arith, (natural-written 511 _ _ k).1))

pub line-valid : (form : Form) (s : List ℕ) → ValidLine form (line_of form s)
line-valid form s = record { ok = read_ok (line-read-as form s) }

abbrev pub LinesOk : Form → List Line → Type 0
LinesOk form [] = Unit
LinesOk form (l ∷ ls) = ValidLine form l × LinesOk form ls

pub lines_ok : (form : Form) (ss : List (List ℕ)) → LinesOk form (lines_in form ss)
unfolding lines_in
lines_ok form [] = tt
lines_ok form ([] ∷ []) = tt
lines_ok form ((b ∷ s) ∷ []) = (record { ok = tt }, tt)
lines_ok form (s ∷ t ∷ ss) = (line-valid form s, lines_ok form (t ∷ ss))

-- only a listing has a line whose head is a phrase's
module _ (form : Form) where
  head-form : (l : Line) → ValidLine form l → head_of l ≡ Ok head.Phrase → form ≡ Listing
  head-form (phrase t) v e = go form v
    where
      go : (f : Form) → ValidLine f (phrase t) → f ≡ Listing
      go Guide w = absurd w.ok
      go Listing w = refl
  head-form (says (input r t)) v e = cc
  head-form (says (inputs r t os)) v e = cc
  head-form (says (print t)) v e = cc
  head-form (says (printex t)) v e = cc
  head-form (if_line t) v e = cc
  head-form else_line v e = cc
  head-form fi_line v e = cc
  head-form (goto_line k) v e = cc
  head-form (if_skip_line t k) v e = cc
  head-form (faulty c) v e = cc

  pub phrase-form : (s : List ℕ) → head_of (line_of form s) ≡ Ok head.Phrase → form ≡ Listing
  phrase-form s e = head-form (line_of form s) (line-valid form s) e
