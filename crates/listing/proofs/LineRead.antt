-- A line of a listing that is written and read back is the same.
use mathlib.Core.Path.{◌≡◌, refl, ◌∙◌}
use mathlib.Core.Bool.{true}
use Rattle.std.specs.Prelude.{Some}
use native.Mathlib.Omega.{arith}
use lib.ListN.{length}
use borrow.Author.Tests.{le-leb}
use Rattle.text.specs.Parts.{join, comma, same, all}
use Rattle.text.specs.Text.{is_text, text_byte}
use Rattle.text.proofs.Tests.{all_so}
use Rattle.decimals.proofs.Decimals.{natural-read}
use Rattle.decimals.proofs.Constants.{constant-read}
use Rattle.text.specs.Utf8.{begins, letters_behind, well_formed}
use Rattle.text.proofs.Bytes.{text-bytes, text-letters}
use Rattle.decimals.proofs.DecimalBytes.{decimalℕ-bytes, decimal-bytes, decimalℕ-letters, decimal-letters}
use Rattle.transcript.specs.Statement.{input, inputs, print, printex}
use Rattle.transcript.specs.declared.Op.{Op}
use Rattle.transcript.specs.declared.Op.TheVariants.{Eq, Ne, Lt, Le, Gt, Ge}
use Rattle.lines.specs.declared.Form.TheVariants.{Listing}
use Rattle.lines.specs.Line.{Line, phrase, says, if_line, else_line, fi_line, goto_line, if_skip_line, faulty}
use Rattle.lines.specs.Line.{operator, kind_line, fields_line, line_of}
use Rattle.lines.proofs.FieldsRead.{fields_read}
use Rattle.lines.proofs.Valid.{LineOk}
use Rattle.lines.proofs.Passes.{NoFault}
use Rattle.listing.specs.Listing.{operator_word}
use Rattle.listing.proofs.ListingLines.{line_fields}

operator-read : (o : Op) → operator (operator_word o) ≡ Some o
unfolding operator same
operator-read Eq = refl
operator-read Ne = refl
operator-read Lt = refl
operator-read Le = refl
operator-read Gt = refl
operator-read Ge = refl

operator-bytes : (o : Op) → all text_byte (operator_word o) ≡ true
unfolding all
operator-bytes Eq = refl
operator-bytes Ne = refl
operator-bytes Lt = refl
operator-bytes Le = refl
operator-bytes Gt = refl
operator-bytes Ge = refl

-- the fields have only bytes of texts: allowed, and no comma
pub fields-bytes : (l : Line) → LineOk Listing l → all (all text_byte) (line_fields l) ≡ true
unfolding all
fields-bytes (phrase t) h = rw (text-bytes t h.0)
fields-bytes (says (input r t)) h = rw (decimalℕ-bytes r, text-bytes t h.1)
fields-bytes (says (inputs r t os)) h =
    rw (decimalℕ-bytes r, text-bytes t h.1, all_so is_text (all text_byte) text-bytes os h.4)
fields-bytes (says (print t)) h = rw (text-bytes t h)
fields-bytes (says (printex t)) h = rw (text-bytes t h)
fields-bytes (goto_line k) h = rw (decimalℕ-bytes k)
fields-bytes (if_skip_line t k) h =
    rw (decimalℕ-bytes t.register, operator-bytes t.op, decimal-bytes t.constant, decimalℕ-bytes k)
fields-bytes (if_line t) h = absurd h
fields-bytes else_line h = absurd h
fields-bytes fi_line h = absurd h
fields-bytes (faulty c) h = refl

operator-letters : (o : Op) → well_formed (operator_word o) ≡ true
unfolding well_formed letters_behind begins
operator-letters Eq = refl
operator-letters Ne = refl
operator-letters Lt = refl
operator-letters Le = refl
operator-letters Gt = refl
operator-letters Ge = refl

-- and whole letters
fields-letters : (l : Line) → LineOk Listing l → all well_formed (line_fields l) ≡ true
unfolding all well_formed letters_behind begins
fields-letters (phrase t) h = rw (text-letters t h.0)
fields-letters (says (input r t)) h = rw (decimalℕ-letters r, text-letters t h.1)
fields-letters (says (inputs r t os)) h =
    rw (decimalℕ-letters r, text-letters t h.1, all_so is_text well_formed text-letters os h.4)
fields-letters (says (print t)) h = rw (text-letters t h)
fields-letters (says (printex t)) h = rw (text-letters t h)
fields-letters (goto_line k) h = rw (decimalℕ-letters k)
fields-letters (if_skip_line t k) h =
    rw (decimalℕ-letters t.register, operator-letters t.op, decimal-letters t.constant, decimalℕ-letters k)
fields-letters (if_line t) h = absurd h
fields-letters else_line h = absurd h
fields-letters fi_line h = absurd h
fields-letters (faulty c) h = refl

-- the fields make the line
kind-read : (l : Line) → LineOk Listing l → NoFault l → fields_line Listing (line_fields l) ≡ l
unfolding kind_line same
kind-read (phrase t) h f = rw (h.0, h.1)
kind-read (says (input r t)) h f = rw (natural-read 31 r (omega arith), h.1)
kind-read (says (inputs r t os)) h f =
    rw (le-leb 2 (length os) h.2, le-leb (length os) 8 h.3, natural-read 31 r (omega arith), h.1, h.4)
kind-read (says (print t)) h f = rw h
kind-read (says (printex t)) h f = rw h
kind-read (goto_line k) h f = rw (natural-read 511 k (omega arith))
kind-read (if_skip_line t k) h f =
    rw (
      natural-read 31 t.register (omega arith),
      operator-read t.op,
      constant-read t.constant h.0.1,
      natural-read 511 k (omega arith),
    )
kind-read (if_line t) h f = absurd h
kind-read else_line h f = absurd h
kind-read fi_line h f = absurd h
kind-read (faulty c) h f = absurd (f c refl)

pub line_read : (l : Line) → LineOk Listing l → NoFault l → line_of Listing (join comma (line_fields l)) ≡ l
line_read l h f = fields_read Listing (line_fields l) (fields-bytes l h) (fields-letters l h) ∙ kind-read l h f
