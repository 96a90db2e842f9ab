-- The statement of a line, from the line's head and fields.
use Prim.Native.Nat.{ℕ}
use native.Mathlib.Omega.{arith}
use mathlib.Core.Path.{◌≡◌, refl, sym, ap, ◌∙◌, subst}
use mathlib.Core.List.{List, [], ◌∷◌}
use mathlib.Core.Bool.{Bool, true, false≢true}
use Rattle.std.specs.Prelude.{Ok, IfOk}
use Rattle.std.proofs.lemmas.Result.{IfOk-at_ok}
use lib.ListN.{length, drop, get_or}
use Rattle.text.specs.Parts.{split, comma}
use Rattle.transcript.specs.declared.Test.{Test}
use Rattle.transcript.specs.Statement.{Statement, input, inputs, print, printex}
use Rattle.transcript.specs.State.{State, step}
use Rattle.transcript.specs.Perform.{perform, holds}
use Rattle.transcript.proofs.Valid.{StatementOk, TestOk}
use Rattle.lines.specs.declared.Form.TheVariants.{Guide as a_guide}
use Rattle.lines.specs.declared.Head.{Head}
use Rattle.lines.specs.declared.Head.TheVariants as head
use Rattle.lines.specs.Line.{Line, phrase, says, if_line, else_line, fi_line, goto_line, if_skip_line, faulty, line_of}
use Rattle.lines.specs.Answers.{head_of}
use Rattle.lines.proofs.FieldsRead.{ReadAs, as-fault, as-input, as-inputs, as-print, as-printex, as-if, as-else, as-fi, line-read-as}
use Rattle.lines.proofs.Valid.{LineOk, line-valid}
use Rattle.guide.specs.Lines.{role_of, begins_by}
use Rattle.walk_blocks.specs.Descend.{Walker, here, follow, walk_if, statement_with}
use Rattle.walk_blocks.specs.Says.{statement_by, Says}

-- ---- the texts of a statement are fields of its line

abbrev Fields : Line → List (List ℕ) → Type 0
Fields (says (input r t)) fs = get_or fs 2 [] ≡ t
Fields (says (inputs r t options)) fs = (get_or fs 2 [] ≡ t) × (drop 3 fs ≡ options)
Fields (says (print t)) fs = get_or fs 1 [] ≡ t
Fields (says (printex t)) fs = get_or fs 1 [] ≡ t
Fields (phrase t) fs = Unit
Fields (if_line test) fs = Unit
Fields else_line fs = Unit
Fields fi_line fs = Unit
Fields (goto_line k) fs = Unit
Fields (if_skip_line test k) fs = Unit
Fields (faulty c) fs = Unit

read-fields : {fs : List (List ℕ)} {l : Line} → ReadAs a_guide fs l → Fields l fs
read-fields (as-fault c) = tt
read-fields (as-input r h) = refl
read-fields (as-inputs n r h) = (refl, refl)
read-fields (as-print h) = refl
read-fields (as-printex h) = refl
read-fields (as-if r o c) = tt
read-fields as-else = tt
read-fields as-fi = tt

same-statement : (x : Statement) (fs : List (List ℕ)) → Fields (says x) fs → IfOk (head_of (says x)) (λ h. x ≡ statement_by h fs)
same-statement (input r t) fs e = rw e refl
same-statement (inputs r t options) fs e = rw (e.0, e.1) refl
same-statement (print t) fs e = rw e refl
same-statement (printex t) fs e = rw e refl

head-says : (x : Statement) (fs : List (List ℕ)) → Fields (says x) fs → StatementOk x → IfOk (head_of (says x)) (λ h. Says h fs)
head-says (input r t) fs e v = v.0
head-says (inputs r t options) fs e v = (v.0, sym (ap length e.1), omega arith)
head-says (print t) fs e v = tt
head-says (printex t) fs e v = tt

-- ---- the lines at which a statement or an if begins

abbrev NoIf : Head → Type 0
NoIf h = (test : Test) → h ≡ head.If test → ⊥

statement-line : (l : Line) → begins_by (role_of l) ≡ true → {h : Head} → Ok h ≡ head_of l → NoIf h → (x : Statement) × (l ≡ says x)
statement-line (says x) b e n = (x, refl)
statement-line (if_line test) b {h} e n = let k : h ≡ head.If test = cc in absurd (n test k)
statement-line (phrase t) b e n = absurd (false≢true b)
statement-line else_line b e n = absurd (false≢true b)
statement-line fi_line b e n = absurd (false≢true b)
statement-line (goto_line k) b e n = absurd (false≢true b)
statement-line (if_skip_line test k) b e n = absurd (false≢true b)
statement-line (faulty c) b e n = absurd (false≢true b)

if-line : (l : Line) (test : Test) → Ok (head.If test) ≡ head_of l → l ≡ if_line test
if-line (if_line u) test e = cc
if-line (phrase t) test e = cc
if-line (says (input r t)) test e = cc
if-line (says (inputs r t options)) test e = cc
if-line (says (print t)) test e = cc
if-line (says (printex t)) test e = cc
if-line else_line test e = cc
if-line fi_line test e = cc
if-line (goto_line k) test e = cc
if-line (if_skip_line u k) test e = cc
if-line (faulty c) test e = cc

-- ---- what the code's matches leave

pub is-printex : (h : Head) (fs : List (List ℕ)) → Says h fs → ((r : ℕ) → h ≡ head.Input r → ⊥) → ((r n : ℕ) → h ≡ head.Inputs r n → ⊥)
    → (h ≡ head.Print → ⊥) → h ≡ head.Printex
is-printex head.Printex fs v i j k = refl
is-printex (head.Input r) fs v i j k = absurd (i r refl)
is-printex (head.Inputs r n) fs v i j k = absurd (j r n refl)
is-printex head.Print fs v i j k = absurd (k refl)
is-printex head.Phrase fs v i j k = absurd v
is-printex (head.If test) fs v i j k = absurd v
is-printex head.Else fs v i j k = absurd v
is-printex head.Fi fs v i j k = absurd v
is-printex (head.Goto n) fs v i j k = absurd v
is-printex (head.IfSkip test n) fs v i j k = absurd v

-- ---- the statement that begins with a line whose bytes are t

module _ (t : List ℕ) (h : Head) (e : Ok h ≡ head_of (line_of a_guide t)) where
  module _ (b : begins_by (role_of (line_of a_guide t)) ≡ true) (n : NoIf h) where
    said : (x : Statement) × (line_of a_guide t ≡ says x)
    said = statement-line (line_of a_guide t) b e n

    fields-said : (q : (x : Statement) × (line_of a_guide t ≡ says x)) → Fields (says q.0) (split comma t)
    fields-said (x, q) = subst (λ (l : Line). Fields l (split comma t)) q (read-fields (line-read-as a_guide t))

    pub line-says : Says h (split comma t)
    line-says = go said (fields-said said)
      where
        go : (q : (x : Statement) × (line_of a_guide t ≡ says x)) → Fields (says q.0) (split comma t) → Says h (split comma t)
        go (x, q) f =
            let v : StatementOk x = subst (λ (l : Line). LineOk a_guide l) q (line-valid a_guide t).ok in
            IfOk-at_ok (λ (k : Head). Says k (split comma t)) (sym (e ∙ ap head_of q)) (head-says x (split comma t) f v)

    pub line-performs : (k : Walker) (s : State) (ls : List Line)
        → follow (perform (statement_by h (split comma t)) s) ls here ≡ statement_with k s (line_of a_guide t ∷ ls)
    unfolding statement_with
    line-performs k s ls = go said (fields-said said)
      where
        go : (q : (x : Statement) × (line_of a_guide t ≡ says x)) → Fields (says q.0) (split comma t)
            → follow (perform (statement_by h (split comma t)) s) ls here ≡ statement_with k s (line_of a_guide t ∷ ls)
        go (x, q) f =
            let same = same-statement x (split comma t) f in
            let y : x ≡ statement_by h (split comma t) = IfOk-at_ok (λ (k : Head). x ≡ statement_by k (split comma t)) (sym (e ∙ ap head_of q)) same in
            rw (← y, q) refl

  module _ (test : Test) (i : h ≡ head.If test) where
    pub if-test : TestOk test
    if-test = subst (λ (l : Line). LineOk a_guide l) (if-line (line_of a_guide t) test (ap Ok (sym i) ∙ e)) (line-valid a_guide t).ok

    pub if-walks : (k : Walker) (s : State) (ls : List Line) (v : Bool) → v ≡ holds test s
        → walk_if v k (step s) ls ≡ statement_with k s (line_of a_guide t ∷ ls)
    unfolding statement_with
    if-walks k s ls v f = let q = if-line (line_of a_guide t) test (ap Ok (sym i) ∙ e) in rw (q, f) refl
