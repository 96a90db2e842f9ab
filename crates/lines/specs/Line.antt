-- Document 01, "Guide lines" and "Listing": one line by itself.
use Rattle.std.specs.Prelude.{ℕ, List, [], ◌∷◌, Bool, true, false, cond, ◌&&◌, length, leb, Option, None, Some}
use Rattle.causes.specs.declared.Cause.{Cause}
use Rattle.causes.specs.declared.Cause.TheVariants.{Byte, Kind, Value, Phrase}
use Rattle.text.specs.Quoted.{bytes}
use Rattle.text.specs.Parts.{split, comma, same, all}
use Rattle.text.specs.Text.{Text, allowed_line, is_text, is_own_text}
use Rattle.decimals.specs.Number.{register, constant, skip}
use Rattle.transcript.specs.Statement.{Statement, input, inputs, print, printex}
use Rattle.transcript.specs.declared.Test.{Test}
use Rattle.transcript.specs.declared.Op.{Op}
use Rattle.transcript.specs.declared.Op.TheVariants.{Eq, Ne, Lt, Le, Gt, Ge}
use Rattle.lines.specs.declared.Form.{Form}
use Rattle.lines.specs.declared.Form.TheVariants.{Guide, Listing}

-- a line of a guide or listing, or its fault
pub data Line : Type 0 where
  -- a listing's `phrase,TEXT`
  phrase : Text → Line
  -- `input,..`, `inputs,..`, `print,..`, `printex,..`
  says : Statement → Line
  -- a guide's `if,R,OP,C`, `else` and `fi`
  if_line : Test → Line
  else_line fi_line : Line
  -- a listing's `goto,SKIP` and `if,R,OP,C,SKIP`
  goto_line : ℕ → Line
  if_skip_line : Test → ℕ → Line
  -- a line that by itself has the cause 3, 4 or 5, or in a guide 6
  faulty : Cause → Line

-- "field value outside its rule": 5
abbrev pub valued : Bool → Line → Line
valued true l = l
valued false l = faulty Value

module _ {A : Type 0} where
  -- the line that a field's value makes; 5 where the field has none
  abbrev pub given : Option A → (A → Line) → Line
  given None f = faulty Value
  given (Some a) f = f a

-- "OP is eq, ne, lt, le, gt or ge"
unfoldable pub operator : List ℕ → Option Op
operator w =
    cond (same w (bytes "eq")) (Some Eq)
    (cond (same w (bytes "ne")) (Some Ne)
    (cond (same w (bytes "lt")) (Some Lt)
    (cond (same w (bytes "le")) (Some Le)
    (cond (same w (bytes "gt")) (Some Gt)
    (cond (same w (bytes "ge")) (Some Ge) None)))))

-- ---- the fields behind each kind; "wrong count of fields": 4

-- `phrase,TEXT`, `print,TEXT`, `printex,TEXT`
abbrev pub text_line : (Text → Bool) → (Text → Line) → List (List ℕ) → Line
text_line rule line [] = faulty Kind
text_line rule line (t ∷ []) = valued (rule t) (line t)
text_line rule line (t ∷ u ∷ fs) = faulty Kind

-- document 02, h): "A guide with a `phrase` line is now turned down with 6 at that line. Listings keep the kind"
abbrev pub phrase_line : Form → Text → Line
phrase_line Guide t = faulty Phrase
phrase_line Listing t = phrase t

-- `input,R,TEXT`
abbrev pub input_line : List (List ℕ) → Line
input_line [] = faulty Kind
input_line (r ∷ []) = faulty Kind
input_line (r ∷ t ∷ []) = given (register r) (λ r. valued (is_text t) (says (input r t)))
input_line (r ∷ t ∷ u ∷ fs) = faulty Kind

-- "2 to 8 options"
abbrev pub option_count : List Text → Bool
option_count options = leb 2 (length options) && leb (length options) 8

-- `inputs,R,TEXT,OPTION,..`
abbrev pub inputs_line : List (List ℕ) → Line
inputs_line [] = faulty Kind
inputs_line (r ∷ []) = faulty Kind
inputs_line (r ∷ t ∷ options) =
    cond (option_count options)
    (given (register r) (λ r. valued (is_text t && all is_text options) (says (inputs r t options))))
    (faulty Kind)

-- R, OP and C
abbrev pub test_line : List ℕ → List ℕ → List ℕ → (Test → Line) → Line
test_line r o c line =
    given (register r) (λ r. given (operator o) (λ o. given (constant c) (λ c. line (record { register = r; op = o; constant = c }))))

-- a guide's `if,R,OP,C`; a listing's `if,R,OP,C,SKIP`
abbrev pub if_fields : Form → List (List ℕ) → Line
if_fields Guide [] = faulty Kind
if_fields Guide (r ∷ []) = faulty Kind
if_fields Guide (r ∷ o ∷ []) = faulty Kind
if_fields Guide (r ∷ o ∷ c ∷ []) = test_line r o c if_line
if_fields Guide (r ∷ o ∷ c ∷ k ∷ fs) = faulty Kind
if_fields Listing [] = faulty Kind
if_fields Listing (r ∷ []) = faulty Kind
if_fields Listing (r ∷ o ∷ []) = faulty Kind
if_fields Listing (r ∷ o ∷ c ∷ []) = faulty Kind
if_fields Listing (r ∷ o ∷ c ∷ k ∷ []) = test_line r o c (λ t. given (skip k) (λ k. if_skip_line t k))
if_fields Listing (r ∷ o ∷ c ∷ k ∷ u ∷ fs) = faulty Kind

-- a guide's `else` and `fi`, with no fields
abbrev pub bare_line : Form → Line → List (List ℕ) → Line
bare_line Guide line [] = line
bare_line Guide line (f ∷ fs) = faulty Kind
bare_line Listing line fs = faulty Kind

-- a listing's `goto,SKIP`
abbrev pub goto_fields : Form → List (List ℕ) → Line
goto_fields Guide fs = faulty Kind
goto_fields Listing [] = faulty Kind
goto_fields Listing (k ∷ []) = given (skip k) (λ k. goto_line k)
goto_fields Listing (k ∷ u ∷ fs) = faulty Kind

-- the line of a kind's word and the fields behind it; "unknown kind": 4
unfoldable pub kind_line : Form → List ℕ → List (List ℕ) → Line
kind_line form w fs =
    cond (same w (bytes "phrase")) (text_line is_own_text (phrase_line form) fs)
    (cond (same w (bytes "input")) (input_line fs)
    (cond (same w (bytes "inputs")) (inputs_line fs)
    (cond (same w (bytes "print")) (text_line is_text (λ t. says (print t)) fs)
    (cond (same w (bytes "printex")) (text_line is_text (λ t. says (printex t)) fs)
    (cond (same w (bytes "if")) (if_fields form fs)
    (cond (same w (bytes "else")) (bare_line form else_line fs)
    (cond (same w (bytes "fi")) (bare_line form fi_line fs)
    (cond (same w (bytes "goto")) (goto_fields form fs) (faulty Kind)))))))))

-- the first field is the kind
abbrev pub fields_line : Form → List (List ℕ) → Line
fields_line form [] = faulty Kind
fields_line form (w ∷ fs) = kind_line form w fs

-- "Fields stand in a fixed order parted by commas"; "byte not allowed", or ill-formed: 3, before any look at the fields
unfoldable pub line_of : Form → List ℕ → Line
line_of form s = cond (allowed_line s) (fields_line form (split comma s)) (faulty Byte)

-- what stands behind the last LF: nothing, or a "last line without LF": 3
abbrev pub unended : List ℕ → List Line
unended [] = []
unended (b ∷ s) = faulty Byte ∷ []

-- "Each line ends in LF"
unfoldable pub lines_in : Form → List (List ℕ) → List Line
lines_in form [] = []
lines_in form (s ∷ []) = unended s
lines_in form (s ∷ t ∷ ss) = line_of form s ∷ lines_in form (t ∷ ss)
