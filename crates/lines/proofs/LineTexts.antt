-- What the head of a line tells of its texts: where the text of a print or a verdict begins, and how many options there are.
use Prim.Native.Nat.{ℕ, ◌+◌, ◌-◌, ◌≤◌}
use native.Mathlib.Omega.{arith}
use mathlib.Core.Path.{◌≡◌, refl, sym, ap, subst, ◌∙◌}
use mathlib.Core.List.{List, [], ◌∷◌}
use lib.ListN.{length, take, drop, get_or}
use Rattle.std.specs.Prelude.{Result, Ok, Err}
use Rattle.causes.specs.declared.Cause.{Cause}
use lib.Seq.{drop-drop}
use Rattle.text.specs.Parts.{split, join, comma, parts_from, until_byte}
use Rattle.decimals.specs.Number.{register}
use Rattle.text.proofs.Tests.{in-range}
use Rattle.text.proofs.Splits.{join-split}
use Rattle.text.proofs.Places.{parts_whole, parts-some, parts_next, at_front}
use Rattle.lines.specs.declared.Form.{Form}
use Rattle.lines.specs.declared.Head.{Head}
use Rattle.lines.specs.declared.Head.TheVariants as head
use Rattle.lines.specs.Line.{Line}
use Rattle.lines.specs.Answers.{head_of, Heads}
use Rattle.lines.specs.Known.{HasValue}
use Rattle.lines.proofs.FieldPlaces.{whole-rest, first_field}
use Rattle.lines.proofs.FieldsRead.{
  ReadAs,
  as-fault,
  as-phrase,
  as-input,
  as-inputs,
  as-print,
  as-printex,
  as-if,
  as-else,
  as-fi,
  as-goto,
  as-if-skip,
  line-read-as,
}

parts-after : (s : List ℕ) (a : ℕ) → until_byte comma s + 1 ≡ a → parts_from comma a s ≡ drop 1 (split comma s)
parts-after s a e =
    let n = parts_next comma s 0 (until_byte comma s) (omega arith) (omega arith) in
    let w = parts_whole comma s ∙ n in
    rw (w, e) refl

-- the field behind the kind's word is a register, and the fields from a on begin with it
pub record RegisterIn (a : ℕ) (fs : List (List ℕ)) (s : List ℕ) : Type 0 where
  pub value : HasValue register (drop 1 fs)
  pub more : 2 ≤ length (drop 1 fs)
  pub rest : parts_from comma a s ≡ drop 1 (split comma s)

-- of a line s with the fields fs
abbrev pub Texts : Head → List (List ℕ) → List ℕ → Type 0
Texts head.Phrase fs s = Unit
Texts (head.Input r) fs s = RegisterIn 6 fs s × (drop 2 fs ≡ get_or fs 2 [] ∷ [])
Texts (head.Inputs r n) fs s = (n ≡ length (drop 3 fs)) × (2 ≤ n) × RegisterIn 7 fs s
Texts head.Print fs s = (get_or fs 1 [] ≡ drop 6 s) × (6 ≤ length s)
Texts head.Printex fs s = (get_or fs 1 [] ≡ drop 8 s) × (8 ≤ length s)
Texts (head.If t) fs s = Unit
Texts head.Else fs s = Unit
Texts head.Fi fs s = Unit
Texts (head.Goto k) fs s = Unit
Texts (head.IfSkip t k) fs s = Unit

-- where it has a head
abbrev TextsOf : Result Head Cause → List (List ℕ) → List ℕ → Type 0
TextsOf (Ok h) fs s = Texts h fs s
TextsOf (Err c) fs s = Unit

read-texts : {form : Form} {fs : List (List ℕ)} {l : Line} → ReadAs form fs l → TextsOf (head_of l) fs (join comma fs)
unfolding join until_byte
read-texts (as-fault c) = tt
read-texts (as-phrase h) = tt
read-texts (as-input {n = n} r h) = (record { value = (n, r); more = omega arith; rest = parts-after _ 6 refl }, refl)
read-texts (as-inputs {os = os} n r h) = (refl, (in-range 2 (length os) 8 n).0, record { value = (_, r); more = omega (arith, (in-range 2 (length os) 8 n).0); rest = parts-after _ 7 refl })
read-texts (as-print h) = (refl, omega arith)
read-texts (as-printex h) = (refl, omega arith)
read-texts (as-if r o c) = tt
read-texts as-else = tt
read-texts as-fi = tt
read-texts (as-goto k) = tt
read-texts (as-if-skip r o c k) = tt

-- a line's head h is known to be k
pub texts : (h k : Head) (s : List ℕ) → Heads h s → h ≡ k → Texts k (split comma s) s
texts h k s (form, e) f =
    let t = rw (join-split comma s) at (read-texts (line-read-as form s)) in
    rw (← f) (subst (λ (r : Result Head Cause). TextsOf r (split comma s) s) (sym e) t)

-- the register, read from the place a on
register-at : {a : ℕ} {s : List ℕ} → RegisterIn a (split comma s) s → HasValue register (parts_from comma a s) × (2 ≤ length (parts_from comma a s))
register-at t = rw t.rest (t.value, t.more)

-- that of a question with options
pub chosen-register : (h : Head) (n m : ℕ) (s : List ℕ) → Heads h s → h ≡ head.Inputs n m
    → HasValue register (parts_from comma 7 s) × (2 ≤ length (parts_from comma 7 s))
chosen-register h n m s e f = register-at (texts h (head.Inputs n m) s e f).2

-- the fields behind it
pub chosen-texts : (h : Head) (n m : ℕ) (s : List ℕ) (r : ℕ) → Heads h s → h ≡ head.Inputs n m → parts_from comma r s ≡ drop 1 (parts_from comma 7 s)
    → parts_from comma r s ≡ drop 2 (split comma s)
chosen-texts h n m s r e f k = k ∙ ap (drop 1) (texts h (head.Inputs n m) s e f).2.rest ∙ drop-drop 1 1 (split comma s)

-- the first of them ends at e: it is the question's text, and behind it stand the options
module _ (s : List ℕ) (a e : ℕ) (h : a ≤ length s) (k : e ≡ a + until_byte comma (drop a s)) (l : parts_from comma a s ≡ drop 2 (split comma s)) where
  pub chosen-text : take (e - a) (drop a s) ≡ get_or (split comma s) 2 []
  chosen-text = first_field s a e h k ∙ ap (λ fs. get_or fs 0 []) l ∙ sym (at_front (split comma s) 2)

  pub chosen-options : parts_from comma (e + 1) s ≡ drop 3 (split comma s)
  chosen-options = ap (drop 1) (sym (parts_next comma s a e h k) ∙ l) ∙ drop-drop 1 2 (split comma s)

-- the register of a question for a number
pub asked-register : (h : Head) (n : ℕ) (s : List ℕ) → Heads h s → h ≡ head.Input n
    → HasValue register (parts_from comma 6 s) × (2 ≤ length (parts_from comma 6 s))
asked-register h n s e f = register-at (texts h (head.Input n) s e f).0

-- its text, from the place behind the register on
pub asked-text : (h : Head) (n : ℕ) (s : List ℕ) (r : ℕ) → Heads h s → h ≡ head.Input n → parts_from comma r s ≡ drop 1 (parts_from comma 6 s)
    → r ≤ length s → take (length s - r) (drop r s) ≡ get_or (split comma s) 2 []
unfolding join
asked-text h n s r e f k l =
    let t = texts h (head.Input n) s e f in
    let one : parts_from comma r s ≡ get_or (split comma s) 2 [] ∷ [] =
    k ∙ ap (drop 1) t.0.rest ∙ drop-drop 1 1 (split comma s) ∙ t.1 in
    whole-rest s r ∙ sym (join-split comma (drop r s)) ∙ ap (join comma) (sym (parts-some comma s r l) ∙ one)
