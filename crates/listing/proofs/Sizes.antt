-- "At most 327,680 bytes, which no accepted plate exceeds": the text of a program that meets the rules is no longer.
use Prim.Native.Nat.{◌*◌, ◌≤◌}
use mathlib.Core.Path.{◌≡◌, refl}
use mathlib.Core.List.{List, [], ◌∷◌, map}
use native.Mathlib.Omega.{arith}
use lib.ListN.{length, length-append, length-map}
use Rattle.text.specs.Parts.{comma}
use Rattle.text.specs.Text.{Text}
use Rattle.decimals.proofs.Decimals.{decimalℕ-short}
use Rattle.decimals.proofs.Constants.{decimal-short}
use Rattle.text.proofs.Bytes.{text-size}
use Rattle.text.proofs.Sizes.{size, join-size, texts-size}
use Rattle.transcript.specs.Statement.{input, inputs, print, printex}
use Rattle.transcript.specs.declared.Op.{Op}
use Rattle.transcript.specs.declared.Op.TheVariants.{Eq, Ne, Lt, Le, Gt, Ge}
use Rattle.lines.specs.declared.Form.TheVariants.{Listing}
use Rattle.lines.specs.Line.{Line, phrase, says, if_line, else_line, fi_line, goto_line, if_skip_line, faulty}
use Rattle.lines.proofs.Valid.{LineOk, LinesOk}
use Rattle.plate.specs.Program.{Program}
use Rattle.plate.proofs.Valid.{ProgramOk}
use Rattle.listing.specs.Listing.{operator_word, lines_text, listing_text}
use Rattle.listing.proofs.ListingLines.{line_fields, program_lines, program-fields, program-ok}

pub operator-size : (o : Op) → length (operator_word o) ≡ 2
operator-size Eq = refl
operator-size Ne = refl
operator-size Lt = refl
operator-size Le = refl
operator-size Gt = refl
operator-size Ge = refl

-- the longest line is an inputs with 8 options: 6 + 2 + 9 * 64 bytes, and 11 commas
line-size : (l : Line) → LineOk Listing l → size (line_fields l) ≤ 595
line-size (phrase t) h = omega (arith, text-size t h.0)
line-size (says (input r t)) h = omega (arith, decimalℕ-short 1 r (omega arith), text-size t h.1)
line-size (says (inputs r t os)) h = omega (arith, decimalℕ-short 1 r (omega arith), text-size t h.1, texts-size os h.4)
line-size (says (print t)) h = omega (arith, text-size t h)
line-size (says (printex t)) h = omega (arith, text-size t h)
line-size (goto_line k) h = omega (arith, decimalℕ-short 2 k (omega arith))
line-size (if_skip_line t k) h =
    omega (
      arith,
      decimalℕ-short 1 t.register (omega arith),
      operator-size t.op,
      decimal-short t.constant h.0.1,
      decimalℕ-short 2 k (omega arith),
    )
line-size (if_line t) h = absurd h
line-size else_line h = absurd h
line-size fi_line h = absurd h
line-size (faulty c) h = omega arith

lines-size : (ls : List Line) → LinesOk Listing ls → length (lines_text (map line_fields ls)) ≤ 596 * length ls
unfolding lines_text
lines-size [] h = omega arith
lines-size (l ∷ ls) h =
    simp length-append (omega (arith, join-size comma (line_fields l), line-size l h.0.ok, lines-size ls h.1))

pub listing-short : (book : List Text) (p : Program) → ProgramOk book p → length (listing_text p) ≤ 327680
unfolding listing_text
listing-short book p h =
    let ls = program_lines p.own p.instructions in
    let ok = program-ok book [] p.own p.instructions h.phrases h.plain h.instructions h.room in
    let n : length ls ≤ 544 = simp (length-append, length-map) (omega (arith, h.few, h.room)) in
    rw (← program-fields p) (omega (arith, lines-size ls ok))
