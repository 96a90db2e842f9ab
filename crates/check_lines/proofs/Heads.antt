-- The check sees of a line only its head, and of a phrase its text.
use Prim.Native.Nat.{ℕ}
use mathlib.Core.Path.{◌≡◌, refl, sym, subst}
use Rattle.std.specs.Prelude.{Result, Ok, Err}
use Rattle.causes.specs.declared.Cause.{Cause}
use mathlib.Core.List.{List, [], ◌∷◌}
use lib.ListN.{get_or}
use types.Run.{OneOf, miss}
use denote.Enum.Declared.{tag_of}
use Rattle.text.specs.Text.{Text}
use Rattle.phrases.specs.Lookup.{phrase_text}
use Rattle.transcript.specs.Statement.{Statement}
use Rattle.lines.specs.declared.Form.{Form}
use Rattle.lines.specs.declared.Head.{Head}
use Rattle.lines.specs.declared.Head.TheVariants as head
use Rattle.lines.specs.Line.{Line, says, line_of}
use Rattle.lines.specs.Check.{Seen, room_cause, cause_of, one_more_instruction, next}
use Rattle.lines.specs.Answers.{head_of}
use Rattle.lines.specs.contracts.Head.{the_type}
use Rattle.lines.proofs.FieldsRead.{ReadAs, as-fault, as-phrase, as-input, as-inputs, as-print, as-printex}
use Rattle.lines.proofs.FieldsRead.{as-if, as-else, as-fi, as-goto, as-if-skip, line-read-as}
use Rattle.check_lines.specs.Held.{line_with}

-- the check takes two lines alike
pub record Alike (l m : Line) : Type 0 where
  pub cause : (book : List Text) (s : Seen) → cause_of book s l ≡ cause_of book s m
  pub seen : (n : ℕ) (s : Seen) → next n l s ≡ next n m s

itself : (l : Line) → Alike l l
itself l = record { cause = λ b s. refl; seen = λ n s. refl }

said : (x y : Statement) → Alike (says x) (says y)
said x y = record { cause = λ b s. refl; seen = λ n s. refl }

-- l and the line with this head, if it is one, whose text is x
abbrev AlikeOf : Line → Text → Result Head Cause → Type 0
AlikeOf l x (Ok h) = Alike l (line_with x h)
AlikeOf l x (Err c) = Unit

read_alike : {form : Form} {fs : List (List ℕ)} {l : Line} → ReadAs form fs l → AlikeOf l (get_or fs 1 []) (head_of l)
read_alike (as-fault c) = tt
read_alike (as-phrase h) = itself _
read_alike (as-input r h) = said _ _
read_alike (as-inputs n r h) = said _ _
read_alike (as-print h) = said _ _
read_alike (as-printex h) = said _ _
read_alike (as-if r o c) = itself _
read_alike as-else = itself _
read_alike as-fi = itself _
read_alike (as-goto k) = itself _
read_alike (as-if-skip r o c k) = itself _

pub line-alike : (form : Form) (p : List ℕ) {h : Head} → Ok h ≡ head_of (line_of form p) → Alike (line_of form p) (line_with (phrase_text p) h)
line-alike form p e = subst (AlikeOf (line_of form p) (phrase_text p)) (sym e) (read_alike (line-read-as form p))

-- a line of another kind than `phrase`, `if`, `else` and `fi`, with no fault, is one instruction more
pub record Counts (h : Head) : Type 0 where
  pub cause : (book : List Text) (s : Seen) (x : Text) → cause_of book s (line_with x h) ≡ room_cause s
  pub seen : (n : ℕ) (x : Text) → next n (line_with x h) ≡ (λ s. one_more_instruction s.ifs s)

-- the heads of such lines, by their place in the enum
abbrev counting : List ℕ
counting = 1 ∷ 2 ∷ 3 ∷ 4 ∷ 8 ∷ 9 ∷ []

pub counts : (h : Head) → OneOf counting (tag_of the_type h) → Counts h
counts head.Phrase e = absurd (miss counting 0 tt e)
counts (head.Input r) e = record { cause = λ b s x. refl; seen = λ n x. refl }
counts (head.Inputs r k) e = record { cause = λ b s x. refl; seen = λ n x. refl }
counts head.Print e = record { cause = λ b s x. refl; seen = λ n x. refl }
counts head.Printex e = record { cause = λ b s x. refl; seen = λ n x. refl }
counts (head.If t) e = absurd (miss counting 5 tt e)
counts head.Else e = absurd (miss counting 6 tt e)
counts head.Fi e = absurd (miss counting 7 tt e)
counts (head.Goto k) e = record { cause = λ b s x. refl; seen = λ n x. refl }
counts (head.IfSkip t k) e = record { cause = λ b s x. refl; seen = λ n x. refl }
