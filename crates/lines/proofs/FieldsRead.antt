-- One line and its fields: fields that are joined are read as the line of their kind, and the ways in which fields make a line.
use Prim.Native.Nat.{ℕ}
use native.Mathlib.Omega.{arith}
use mathlib.Core.Path.{◌≡◌, refl}
use mathlib.Core.List.{List, [], ◌∷◌}
use mathlib.Core.Bool.{Bool, true, false, cond, ◌&&◌}
use Rattle.std.specs.Prelude.{Option, None, Some}
use lib.IntN.{ℤ}
use Rattle.causes.specs.declared.Cause.{Cause}
use Rattle.causes.specs.declared.Cause.TheVariants.{Byte, Kind, Value, Phrase}
use Rattle.text.specs.Quoted.{bytes}
use Rattle.text.specs.Parts.{split, join, comma, same, all}
use Rattle.text.specs.Text.{Text, allowed, text_byte, is_text, allowed_line, is_own_text}
use Rattle.text.specs.Utf8.{letters_behind, well_formed}
use Rattle.text.proofs.Fields.{well-join}
use Rattle.decimals.specs.Number.{register, constant, skip}
use Rattle.text.proofs.Tests.{each-so, same-equal}
use Rattle.text.proofs.Splits.{other, Some as Parted, split-some, split-join, join-all}
use Rattle.text.proofs.Bytes.{text-allowed, text-no-comma}
use Rattle.text.proofs.Valid.{TextOk}
use Rattle.transcript.specs.Statement.{input, inputs, print, printex}
use Rattle.transcript.specs.declared.Op.{Op}
use Rattle.lines.specs.declared.Form.{Form}
use Rattle.lines.specs.declared.Form.TheVariants.{Guide, Listing}
use Rattle.lines.specs.Line.{Line, phrase, says, if_line, else_line, fi_line, goto_line, if_skip_line, faulty}
use Rattle.lines.specs.Line.{valued, given, operator, text_line, phrase_line, input_line, option_count, inputs_line, if_fields}
use Rattle.lines.specs.Line.{bare_line, goto_fields, kind_line, fields_line, line_of}

-- ---- from fields to the line

pub fields_read : (form : Form) (fs : List (List ℕ)) → all (all text_byte) fs ≡ true → all well_formed fs ≡ true
    → line_of form (join comma fs) ≡ fields_line form fs
unfolding line_of kind_line all join split same well_formed letters_behind
fields_read form [] h k = refl
fields_read form (w ∷ fs) h k =
    let a = join-all comma allowed refl (w ∷ fs) (each-so text_byte allowed text-allowed (w ∷ fs) h) in
    let c = each-so text_byte (other comma) text-no-comma (w ∷ fs) h in
    rw (a, well-join comma (omega arith) w fs, k, split-join comma w fs c)

-- ---- from the line to its fields

-- the fields, and what is known of them, from which a line is read
pub data ReadAs : Form → List (List ℕ) → Line → Type 0 where
  as-fault : {form : Form} {fs : List (List ℕ)} (c : Cause) → ReadAs form fs (faulty c)
  as-phrase : {t : Text} → is_own_text t ≡ true → ReadAs Listing (bytes "phrase" ∷ t ∷ []) (phrase t)
  as-input : {form : Form} {r : List ℕ} {t : Text} {n : ℕ} → register r ≡ Some n → TextOk t
      → ReadAs form (bytes "input" ∷ r ∷ t ∷ []) (says (input n t))
  as-inputs : {form : Form} {r : List ℕ} {t : Text} {os : List Text} {n : ℕ} → option_count os ≡ true → register r ≡ Some n
      → (is_text t && all is_text os) ≡ true → ReadAs form (bytes "inputs" ∷ r ∷ t ∷ os) (says (inputs n t os))
  as-print : {form : Form} {t : Text} → TextOk t → ReadAs form (bytes "print" ∷ t ∷ []) (says (print t))
  as-printex : {form : Form} {t : Text} → TextOk t → ReadAs form (bytes "printex" ∷ t ∷ []) (says (printex t))
  as-if : {r o c : List ℕ} {n : ℕ} {op : Op} {z : ℤ} → register r ≡ Some n → operator o ≡ Some op → constant c ≡ Some z
      → ReadAs Guide (bytes "if" ∷ r ∷ o ∷ c ∷ []) (if_line (record { register = n; op = op; constant = z }))
  as-else : ReadAs Guide (bytes "else" ∷ []) else_line
  as-fi : ReadAs Guide (bytes "fi" ∷ []) fi_line
  as-goto : {k : List ℕ} {j : ℕ} → skip k ≡ Some j → ReadAs Listing (bytes "goto" ∷ k ∷ []) (goto_line j)
  as-if-skip : {r o c k : List ℕ} {n : ℕ} {op : Op} {z : ℤ} {j : ℕ} → register r ≡ Some n → operator o ≡ Some op
      → constant c ≡ Some z → skip k ≡ Some j
      → ReadAs Listing (bytes "if" ∷ r ∷ o ∷ c ∷ k ∷ []) (if_skip_line (record { register = n; op = op; constant = z }) j)

module _ {form : Form} {fs : List (List ℕ)} where
  valued_as : (b : Bool) {l : Line} → (b ≡ true → ReadAs form fs l) → ReadAs form fs (valued b l)
  valued_as true h = h refl
  valued_as false h = as-fault Value

  given-as : {A : Type 0} (o : Option A) (f : A → Line) → ((a : A) → o ≡ Some a → ReadAs form fs (f a)) → ReadAs form fs (given o f)
  given-as None f h = as-fault Value
  given-as (Some a) f h = h a refl

  test-as : (b : Bool) {l m : Line} → (b ≡ true → ReadAs form fs l) → ReadAs form fs m → ReadAs form fs (cond b l m)
  test-as true h k = h refl
  test-as false h k = k

text-as : {form : Form} {w : List ℕ} (rule : Text → Bool) (line : Text → Line) (fs : List (List ℕ))
    → ((t : Text) → rule t ≡ true → ReadAs form (w ∷ t ∷ []) (line t)) → ReadAs form (w ∷ fs) (text_line rule line fs)
text-as rule line [] h = as-fault Kind
text-as rule line (t ∷ []) h = valued_as (rule t) (h t)
text-as rule line (t ∷ u ∷ fs) h = as-fault Kind

phrase-as : (form : Form) (t : Text) → is_own_text t ≡ true → ReadAs form (bytes "phrase" ∷ t ∷ []) (phrase_line form t)
phrase-as Guide t h = as-fault Phrase
phrase-as Listing t h = as-phrase h

input-as : {form : Form} (fs : List (List ℕ)) → ReadAs form (bytes "input" ∷ fs) (input_line fs)
input-as [] = as-fault Kind
input-as (r ∷ []) = as-fault Kind
input-as (r ∷ t ∷ []) = given-as (register r) _ (λ n e. valued_as (is_text t) (as-input e))
input-as (r ∷ t ∷ u ∷ fs) = as-fault Kind

inputs-as : {form : Form} (fs : List (List ℕ)) → ReadAs form (bytes "inputs" ∷ fs) (inputs_line fs)
inputs-as [] = as-fault Kind
inputs-as (r ∷ []) = as-fault Kind
inputs-as (r ∷ t ∷ os) =
    test-as (option_count os) (λ c. given-as (register r) _ (λ n e. valued_as (is_text t && all is_text os) (as-inputs c e))) (as-fault Kind)

if-as : (form : Form) (fs : List (List ℕ)) → ReadAs form (bytes "if" ∷ fs) (if_fields form fs)
if-as Guide [] = as-fault Kind
if-as Guide (r ∷ []) = as-fault Kind
if-as Guide (r ∷ o ∷ []) = as-fault Kind
if-as Guide (r ∷ o ∷ c ∷ []) =
    given-as (register r) _ (λ n e. given-as (operator o) _ (λ op f. given-as (constant c) _ (λ z g. as-if e f g)))
if-as Guide (r ∷ o ∷ c ∷ k ∷ fs) = as-fault Kind
if-as Listing [] = as-fault Kind
if-as Listing (r ∷ []) = as-fault Kind
if-as Listing (r ∷ o ∷ []) = as-fault Kind
if-as Listing (r ∷ o ∷ c ∷ []) = as-fault Kind
if-as Listing (r ∷ o ∷ c ∷ k ∷ []) =
    given-as (register r) _ (λ n e. given-as (operator o) _ (λ op f. given-as (constant c) _ (λ z g.
    given-as (skip k) _ (λ j h. as-if-skip e f g h))))
if-as Listing (r ∷ o ∷ c ∷ k ∷ u ∷ fs) = as-fault Kind

bare-as : (form : Form) {w : List ℕ} {line : Line} (fs : List (List ℕ)) → ReadAs Guide (w ∷ []) line
    → ReadAs form (w ∷ fs) (bare_line form line fs)
bare-as Guide [] h = h
bare-as Guide (f ∷ fs) h = as-fault Kind
bare-as Listing fs h = as-fault Kind

goto-as : (form : Form) (fs : List (List ℕ)) → ReadAs form (bytes "goto" ∷ fs) (goto_fields form fs)
goto-as Guide fs = as-fault Kind
goto-as Listing [] = as-fault Kind
goto-as Listing (k ∷ []) = given-as (skip k) _ (λ j e. as-goto e)
goto-as Listing (k ∷ u ∷ fs) = as-fault Kind

kind-as : (form : Form) (w : List ℕ) (fs : List (List ℕ)) → ReadAs form (w ∷ fs) (kind_line form w fs)
unfolding kind_line
kind-as form w fs =
    word (bytes "phrase") (text-as is_own_text (phrase_line form) fs (phrase-as form))
    (word (bytes "input") (input-as fs)
    (word (bytes "inputs") (inputs-as fs)
    (word (bytes "print") (text-as is_text (λ t. says (print t)) fs (λ t. as-print))
    (word (bytes "printex") (text-as is_text (λ t. says (printex t)) fs (λ t. as-printex))
    (word (bytes "if") (if-as form fs)
    (word (bytes "else") (bare-as form fs as-else)
    (word (bytes "fi") (bare-as form fs as-fi)
    (word (bytes "goto") (goto-as form fs) (as-fault Kind)))))))))
  where
    word : (v : List ℕ) {l m : Line} → ReadAs form (v ∷ fs) l → ReadAs form (w ∷ fs) m → ReadAs form (w ∷ fs) (cond (same w v) l m)
    word v h k = test-as (same w v) (λ e. rw (same-equal w v e) h) k

-- a line is read from its parts between commas
pub fields-read-as : (form : Form) (s : List ℕ) → ReadAs form (split comma s) (fields_line form (split comma s))
fields-read-as form s = go (split-some comma s)
  where
    go : Parted (split comma s) → ReadAs form (split comma s) (fields_line form (split comma s))
    go (w, fs, e) = rw e (kind-as form w fs)

pub line-read-as : (form : Form) (s : List ℕ) → ReadAs form (split comma s) (line_of form s)
unfolding line_of
line-read-as form s = test-as (allowed_line s) (λ e. fields-read-as form s) (as-fault Byte)
