-- A line that is judged behind what is seen: a head means that it has no cause, and a refusal is its cause.
use mathlib.Core.Path.{◌≡◌, refl, sym, ap, ◌∙◌}
use mathlib.Core.List.{List}
use Rattle.std.specs.Prelude.{ℕ, Option, None, Some, Result, Ok, Err, MatchResult, IsErrAnd}
use Rattle.causes.specs.declared.Cause.{Cause}
use Rattle.causes.specs.declared.Refusal.{Refusal}
use Rattle.text.specs.Text.{Text}
use Rattle.transcript.specs.Statement.{input, inputs, print, printex}
use Rattle.lines.specs.declared.Head.{Head}
use Rattle.lines.specs.declared.Head.TheVariants as head
use Rattle.lines.specs.Line.{Line, phrase, says, if_line, else_line, fi_line, goto_line, if_skip_line, faulty}
use Rattle.lines.specs.Check.{Seen, cause_of}
use Rattle.lines.specs.Answers.{head_of}
use Rattle.check_lines.specs.Held.{judged_by, judged, fault_answer}

-- a line with no cause has a head
pub record HasHead (l : Line) : Type 0 where
  pub head : Head
  pub is : Ok head ≡ head_of l

module _ (book : List Text) (s : Seen) where
  pub has-head : (l : Line) → cause_of book s l ≡ None → HasHead l
  has-head (phrase t) e = record { head = head.Phrase; is = refl }
  has-head (says (input r t)) e = record { head = head.Input r; is = refl }
  has-head (says (inputs r t os)) e = record { head = _; is = refl }
  has-head (says (print t)) e = record { head = head.Print; is = refl }
  has-head (says (printex t)) e = record { head = head.Printex; is = refl }
  has-head (if_line t) e = record { head = head.If t; is = refl }
  has-head else_line e = record { head = head.Else; is = refl }
  has-head fi_line e = record { head = head.Fi; is = refl }
  has-head (goto_line k) e = record { head = head.Goto k; is = refl }
  has-head (if_skip_line t k) e = record { head = head.IfSkip t k; is = refl }
  has-head (faulty c) e = cc

  pub judged-ok : (l : Line) {h : Head} → Ok h ≡ judged book s l → (cause_of book s l ≡ None) × (Ok h ≡ head_of l)
  judged-ok l {h = h} = go (cause_of book s l)
    where
      go : (o : Option Cause) → Ok h ≡ judged_by (head_of l) o → (o ≡ None) × (Ok h ≡ head_of l)
      go None e = (refl, e)
      go (Some c) e = cc

  pub judged-err : (l : Line) {c : Cause} → Err c ≡ judged book s l → cause_of book s l ≡ Some c
  judged-err l {c = c} e = go (cause_of book s l) refl e
    where
      go : (o : Option Cause) → cause_of book s l ≡ o → Err c ≡ judged_by (head_of l) o → o ≡ Some c
      go None k e = let h = has-head l k in cc (h.is, e)
      go (Some d) k e = cc

  -- a line with this head, by its cause
  pub judged-head : (l : Line) {h : Head} {o : Option Cause} → Ok h ≡ head_of l → cause_of book s l ≡ o → judged_by (Ok h) o ≡ judged book s l
  judged-head l {h = h} {o = o} e k = ap (λ r. judged_by r o) e ∙ ap (judged_by (head_of l)) (sym k)

-- ---- what the search for a cause answers

pub fault-err : (o : Option Cause) {c : Cause} → Err c ≡ fault_answer o → o ≡ Some c
fault-err None e = cc
fault-err (Some d) e = cc

pub fault-ok : (o : Option Cause) {u : Unit {0}} → Ok u ≡ fault_answer o → o ≡ None
fault-ok None e = refl
fault-ok (Some d) e = cc

-- ---- what `map_err` hands on

pub mapped-head : (q : Result Head Cause) {h : Head} → MatchResult q (λ x. ◌≡◌ {A = Result Head Refusal} (Ok h) (Ok x)) (λ c. ⊥) → q ≡ Ok h
mapped-head (Ok x) k = cc
mapped-head (Err c) k = absurd k

-- the cause, with the line's number
pub mapped-refusal : (n : ℕ) (q : Result Head Cause) (m : Result Head Refusal) (P : Cause → Refusal → Type 0)
    → MatchResult q (λ x. m ≡ Ok x) (λ c. IsErrAnd m (P c)) → ((c : Cause) (d : Refusal) → P c d → d ≡ record { cause = c; place = n })
    → {r : Refusal} → m ≡ Err r → (c : Cause) × (q ≡ Err c) × (r ≡ record { cause = c; place = n })
mapped-refusal n (Ok x) m P k f e = cc
mapped-refusal n (Err c) (Ok h) P k f e = cc
mapped-refusal n (Err c) (Err d) P k f {r = r} e = let s : r ≡ d = cc in (c, refl, s ∙ f c d k)
