-- A line that is a phrase: the word, a comma, and its text, which is the text's part from the 7th byte on.
use Prim.Native.Nat.{ℕ, ◌+◌, ◌-◌, ◌≤◌}
use native.Mathlib.Omega.{arith}
use mathlib.Core.Path.{◌≡◌, refl, sym, ap, subst, ◌∙◌}
use mathlib.Core.List.{List, []}
use mathlib.Core.Bool.{true}
use lib.ListN.{length, take, drop, get_or, length-drop}
use Rattle.std.specs.Prelude.{Result, Ok, Err}
use Rattle.causes.specs.declared.Cause.{Cause}
use lib.Seq.{take-add, drop_at, drop-drop, length-take-le}
use Rattle.text.specs.Parts.{split, join, comma}
use Rattle.text.specs.Text.{Text, is_text, is_plain, is_own_text}
use Rattle.text.proofs.Bytes.{text-size}
use Rattle.text.proofs.Tests.{and_parts}
use Rattle.text.proofs.Splits.{join-split}
use Rattle.phrases.specs.Lookup.{phrase_text}
use Rattle.lines.specs.declared.Form.{Form}
use Rattle.lines.specs.declared.Head.{Head}
use Rattle.lines.specs.declared.Head.TheVariants as head
use Rattle.lines.specs.Line.{Line, line_of}
use Rattle.lines.specs.Answers.{head_of}
use Rattle.lines.proofs.FieldsRead.{ReadAs, as-fault, as-phrase, as-input, as-inputs, as-print, as-printex}
use Rattle.lines.proofs.FieldsRead.{as-if, as-else, as-fi, as-goto, as-if-skip, line-read-as}

-- the bytes s are the word, a comma and the text t
pub record Told (s : List ℕ) (t : Text) : Type 0 where
  pub text : t ≡ drop 7 s
  pub long : 7 ≤ length s
  pub short : length s ≤ 71

-- of a line s with the fields fs
abbrev Tells : Head → List (List ℕ) → List ℕ → Type 0
Tells head.Phrase fs s = Told s (get_or fs 1 [])
Tells (head.Input r) fs s = Unit
Tells (head.Inputs r n) fs s = Unit
Tells head.Print fs s = Unit
Tells head.Printex fs s = Unit
Tells (head.If t) fs s = Unit
Tells head.Else fs s = Unit
Tells head.Fi fs s = Unit
Tells (head.Goto k) fs s = Unit
Tells (head.IfSkip t k) fs s = Unit

-- where it has a head
abbrev TellsOf : Result Head Cause → List (List ℕ) → List ℕ → Type 0
TellsOf (Ok h) fs s = Tells h fs s
TellsOf (Err c) fs s = Unit

text-short : (t : Text) → is_own_text t ≡ true → length t ≤ 64
text-short t h = (text-size t (and_parts (is_text t) (is_plain t) h).0).1

read-tells : {form : Form} {fs : List (List ℕ)} {l : Line} → ReadAs form fs l → TellsOf (head_of l) fs (join comma fs)
unfolding join
read-tells (as-fault c) = tt
read-tells (as-phrase {t = t} h) = record { text = refl; long = omega arith; short = omega (arith, text-short t h) }
read-tells (as-input r h) = tt
read-tells (as-inputs n r h) = tt
read-tells (as-print h) = tt
read-tells (as-printex h) = tt
read-tells (as-if r o c) = tt
read-tells as-else = tt
read-tells as-fi = tt
read-tells (as-goto k) = tt
read-tells (as-if-skip r o c k) = tt

pub phrase-told : (form : Form) (s : List ℕ) → Ok head.Phrase ≡ head_of (line_of form s) → Told s (phrase_text s)
phrase-told form s e = subst (λ (d : Result Head Cause). TellsOf d (split comma s) s) (sym e) (rw (join-split comma s) at (read-tells (line-read-as form s)))

-- a phrase that stands from a to e in a text
module _ (form : Form) (text : List ℕ) (a e : ℕ) (i : a ≤ e) (l : e ≤ length text)
    (h : Ok head.Phrase ≡ head_of (line_of form (take (e - a) (drop a text)))) where
  abbrev here : List ℕ
  here = take (e - a) (drop a text)

  line-size : length here ≡ e - a
  line-size = length-take-le (e - a) (drop a text) (simp length-drop (omega arith))

  pub line-long : a + 7 ≤ e
  line-long = omega (arith, line-size, (phrase-told form here h).long)

  pub line-short : e ≤ a + 71
  line-short = omega (arith, line-size, (phrase-told form here h).short)

  pub text-part : phrase_text here ≡ take (e - (a + 7)) (drop (a + 7) text)
  text-part =
      let n : e - a ≡ 7 + (e - (a + 7)) = omega (arith, line-long) in
      let front = length-take-le 7 (drop a text) (simp length-drop (omega (arith, line-long))) in
      (phrase-told form here h).text
      ∙ ap (drop 7) (ap (λ k. take k (drop a text)) n ∙ take-add 7 (e - (a + 7)) (drop a text))
      ∙ drop_at (take 7 (drop a text)) (take (e - (a + 7)) (drop 7 (drop a text))) 7 front
      ∙ ap (take (e - (a + 7))) (drop-drop 7 a text)
