-- The head of a line that is no fault, by its kind: the fields' numbers alone tell it.
use Prim.Native.Nat.{ℕ, ◌-◌}
use native.Mathlib.Omega.{arith}
use mathlib.Core.Path.{◌≡◌, refl, sym, ap, ◌∙◌}
use mathlib.Core.List.{List, [], ◌∷◌}
use mathlib.Core.Bool.{Bool, true, false, cond, ◌&&◌, false≢true}
use Rattle.std.specs.Prelude.{Option, None, Some, Result, Ok, Err}
use lib.ListN.{length, get_or}
use lib.Dec.{eqb}
use Rattle.causes.specs.declared.Cause.{Cause}
use Rattle.causes.specs.declared.Cause.TheVariants.{Byte, Value, Phrase}
use Rattle.text.specs.Parts.{comma, split, all}
use Rattle.text.specs.Text.{Text, allowed_line, is_text, is_own_text}
use Rattle.decimals.specs.Number.{register, skip}
use Rattle.transcript.specs.Statement.{input, inputs}
use Rattle.transcript.specs.declared.Test.{Test}
use Rattle.lines.specs.declared.Form.{Form}
use Rattle.lines.specs.declared.Form.TheVariants.{Guide, Listing}
use Rattle.lines.specs.declared.Head.{Head}
use Rattle.lines.specs.declared.Head.TheVariants as head
use Rattle.lines.specs.declared.Kind.{Kind}
use Rattle.lines.specs.Line.{Line, phrase, says, if_line, goto_line, if_skip_line, faulty, valued, given}
use Rattle.lines.specs.Line.{text_line, phrase_line, input_line, option_count, inputs_line, if_fields, bare_line, goto_fields, fields_line, line_of}
use Rattle.lines.specs.Words.{line_of_kind}
use Rattle.lines.specs.Fields.{test_of}
use Rattle.lines.specs.Answers.{head_of}
use Rattle.lines.specs.Clean.{is_clean}
use Rattle.lines.proofs.FieldCounts.{guide-if-counted, listing-if-counted}

-- a line is no fault
abbrev Is : Line → Type 0
Is l = is_clean l ≡ true

valued-clean : (b : Bool) (l : Line) → Is (valued b l) → valued b l ≡ l
valued-clean true l c = refl
valued-clean false l c = absurd (false≢true c)

test-clean : (b : Bool) (l : Line) (cause : Cause) → Is (cond b l (faulty cause)) → (b ≡ true) × (cond b l (faulty cause) ≡ l)
test-clean true l cause c = (refl, refl)
test-clean false l cause c = absurd (false≢true c)

module _ {A : Type 0} where
  -- the head that a field's value makes; 5 where the field has none
  abbrev pub head_given : Option A → (A → Result Head Cause) → Result Head Cause
  head_given None f = Err Value
  head_given (Some a) f = f a

  given-clean : (o : Option A) (f : A → Line) (d : A → Result Head Cause) → ((a : A) → Is (f a) → d a ≡ head_of (f a)) → Is (given o f)
      → head_given o d ≡ head_of (given o f)
  given-clean None f d h c = refl
  given-clean (Some a) f d h c = h a c

pub text-clean : (rule : Text → Bool) (line : Text → Line) {d : Result Head Cause} → ((t : Text) → head_of (line t) ≡ d) → (fs : List (List ℕ)) → Is (text_line rule line fs)
    → d ≡ head_of (text_line rule line fs)
text-clean rule line h [] c = absurd (false≢true c)
text-clean rule line h (t ∷ []) c = sym (h t) ∙ ap head_of (sym (valued-clean (rule t) (line t) c))
text-clean rule line h (t ∷ u ∷ fs) c = absurd (false≢true c)

-- a phrase line is no fault in a listing alone
pub phrase-clean : (form : Form) (fs : List (List ℕ)) → Is (text_line is_own_text (phrase_line form) fs)
    → Ok head.Phrase ≡ head_of (text_line is_own_text (phrase_line form) fs)
phrase-clean Guide [] c = absurd (false≢true c)
phrase-clean Guide (t ∷ []) c = go (is_own_text t) c
  where
    go : (b : Bool) → Is (valued b (faulty Phrase)) → Ok head.Phrase ≡ head_of (valued b (faulty Phrase))
    go true d = absurd (false≢true d)
    go false d = absurd (false≢true d)
phrase-clean Guide (t ∷ u ∷ fs) c = absurd (false≢true c)
phrase-clean Listing fs c = text-clean is_own_text phrase (λ t. refl) fs c

pub input-clean : (fs : List (List ℕ)) → Is (input_line fs) → head_given (register (get_or fs 0 [])) (λ r. Ok (head.Input r)) ≡ head_of (input_line fs)
input-clean [] c = absurd (false≢true c)
input-clean (r ∷ []) c = absurd (false≢true c)
input-clean (r ∷ t ∷ []) c =
    given-clean (register r) _ (λ r. Ok (head.Input r)) (λ n k. ap head_of (sym (valued-clean (is_text t) (says (input n t)) k))) c
input-clean (r ∷ t ∷ u ∷ fs) c = absurd (false≢true c)

pub inputs-clean : (fs : List (List ℕ)) → Is (inputs_line fs)
    → head_given (register (get_or fs 0 [])) (λ r. Ok (head.Inputs r (length fs - 2))) ≡ head_of (inputs_line fs)
inputs-clean [] c = absurd (false≢true c)
inputs-clean (r ∷ []) c = absurd (false≢true c)
inputs-clean (r ∷ t ∷ os) c =
    let k = test-clean (option_count os) _ _ c in
    let n : length (r ∷ t ∷ os) - 2 ≡ length os = omega arith in
    rw n
    (given-clean (register r) _ (λ n. Ok (head.Inputs n (length os)))
    (λ n v. ap head_of (sym (valued-clean (is_text t && all is_text os) (says (inputs n t os)) v))) (ap is_clean (sym k.1) ∙ c)
    ∙ ap head_of (sym k.1))

-- the head of an if, by its test and its skip
abbrev if_head : Form → Option Test → Option ℕ → Result Head Cause
if_head Guide t k = head_given t (λ t. Ok (head.If t))
if_head Listing t k = head_given t (λ t. head_given k (λ k. Ok (head.IfSkip t k)))

if-head : (form : Form) (fs : List (List ℕ)) → Is (if_fields form fs)
    → if_head form (test_of (get_or fs 0 []) (get_or fs 1 []) (get_or fs 2 [])) (skip (get_or fs 3 [])) ≡ head_of (if_fields form fs)
if-head Guide fs c =
    let e = guide-if-counted fs in
    let k = test-clean (eqb (length fs) 3) _ _ (ap is_clean (sym e) ∙ c) in
    given-clean (test_of (get_or fs 0 []) (get_or fs 1 []) (get_or fs 2 [])) if_line (λ t. Ok (head.If t)) (λ t v. refl) (ap is_clean (sym (e ∙ k.1)) ∙ c)
    ∙ ap head_of (sym (e ∙ k.1))
if-head Listing fs c =
    let e = listing-if-counted fs in
    let k = test-clean (eqb (length fs) 4) _ _ (ap is_clean (sym e) ∙ c) in
    given-clean (test_of (get_or fs 0 []) (get_or fs 1 []) (get_or fs 2 [])) _ _
    (λ t v. given-clean (skip (get_or fs 3 [])) (if_skip_line t) (λ j. Ok (head.IfSkip t j)) (λ j w. refl) v) (ap is_clean (sym (e ∙ k.1)) ∙ c)
    ∙ ap head_of (sym (e ∙ k.1))

module _ (form : Form) (fs : List (List ℕ)) (c : Is (if_fields form fs)) where
  module _ {t : Test} (h : test_of (get_or fs 0 []) (get_or fs 1 []) (get_or fs 2 []) ≡ Some t) where
    if-test : if_head form (Some t) (skip (get_or fs 3 [])) ≡ head_of (if_fields form fs)
    if-test = ap (λ t. if_head form t (skip (get_or fs 3 []))) (sym h) ∙ if-head form fs c

    pub guide-if : form ≡ Guide → Ok (head.If t) ≡ head_of (if_fields form fs)
    guide-if e = ap (λ f. if_head f (Some t) (skip (get_or fs 3 []))) (sym e) ∙ if-test

    pub listing-if : form ≡ Listing → {k : Option ℕ} → skip (get_or fs 3 []) ≡ k → head_given k (λ j. Ok (head.IfSkip t j)) ≡ head_of (if_fields form fs)
    listing-if e k = ap (λ k. head_given k (λ j. Ok (head.IfSkip t j))) (sym k) ∙ ap (λ f. if_head f (Some t) (skip (get_or fs 3 []))) (sym e) ∙ if-test

pub bare-clean : (form : Form) (line : Line) (fs : List (List ℕ)) → Is (bare_line form line fs) → head_of line ≡ head_of (bare_line form line fs)
bare-clean Guide line [] c = refl
bare-clean Guide line (f ∷ fs) c = absurd (false≢true c)
bare-clean Listing line fs c = absurd (false≢true c)

pub goto-clean : (form : Form) (fs : List (List ℕ)) → Is (goto_fields form fs)
    → head_given (skip (get_or fs 0 [])) (λ k. Ok (head.Goto k)) ≡ head_of (goto_fields form fs)
goto-clean Guide fs c = absurd (false≢true c)
goto-clean Listing [] c = absurd (false≢true c)
goto-clean Listing (k ∷ []) c = given-clean (skip k) goto_line (λ k. Ok (head.Goto k)) (λ j v. refl) c
goto-clean Listing (k ∷ u ∷ fs) c = absurd (false≢true c)

-- its bytes are allowed
pub bytes-clean : (form : Form) (s : List ℕ) → Is (line_of form s) → allowed_line s ≡ true
unfolding line_of
bytes-clean form s c = go (allowed_line s) c
  where
    go : (b : Bool) → Is (cond b (fields_line form (split comma s)) (faulty Byte)) → b ≡ true
    go b d = (test-clean b _ _ d).0

-- ---- a line by its kind

pub of-kind : (form : Form) {j k : Kind} (fs : List (List ℕ)) → j ≡ k → Is (line_of_kind form j fs) → Is (line_of_kind form k fs)
of-kind form fs e c = ap (λ k. is_clean (line_of_kind form k fs)) (sym e) ∙ c

pub head-of-kind : (form : Form) {j k : Kind} (fs : List (List ℕ)) {d : Result Head Cause} → j ≡ k → d ≡ head_of (line_of_kind form k fs)
    → d ≡ head_of (line_of_kind form j fs)
head-of-kind form fs e h = h ∙ ap (λ k. head_of (line_of_kind form k fs)) (sym e)
