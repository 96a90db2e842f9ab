-- A listing's text and its program are inverse: a program that meets the rules is read back from its text, and a text that is read is
-- its program's text.
use Prim.Native.Nat.{ℕ, suc, ◌≤◌}
use mathlib.Core.Path.{◌≡◌, refl, sym, ap, subst, ◌∙◌}
use mathlib.Core.List.{List, [], map}
use mathlib.Core.Option.{Option, none, some}
use native.Mathlib.Omega.{arith}
use lib.ListN.{length}
use Rattle.causes.specs.Answers.{made}
use Rattle.causes.proofs.Results.{never, made-from}
use Rattle.text.specs.Parts.{split, LF}
use Rattle.text.specs.Text.{Text}
use Rattle.text.proofs.Splits.{join-split}
use Rattle.lines.specs.declared.Form.TheVariants.{Listing}
use Rattle.lines.specs.Check.{nothing_seen, lines_of, Accepted, accept}
use Rattle.lines.proofs.Valid.{LinesOk}
use Rattle.lines.proofs.Passes.{Passes}
use Rattle.lines.proofs.Accepts.{Accepts, accept-read, accepts}
use Rattle.plate.specs.Program.{Program}
use Rattle.plate.proofs.Valid.{ProgramOk}
use Rattle.listing.specs.Listing.{listing_text, lines_text, listing_program, instructions_of, first_past, within}
use Rattle.listing.proofs.ListingLines.{line_fields, program_lines, program-fields, program-instructions, program-ok}
use Rattle.listing.proofs.Texts.{lines-read, lines-written}
use Rattle.listing.proofs.Passing.{seen, program-passes, sorted}
use Rattle.listing.proofs.Skips.{none-past, instructions-ok}

-- ---- written, then read

pub listing-read : (book : List Text) (p : Program) → ProgramOk book p → length (listing_text p) ≤ 327680
    → listing_program book (listing_text p) ≡ made p
unfolding listing_program listing_text
listing-read book p h k =
    let end = seen p.own (length p.instructions) in
    let c = program-passes book 1 [] p.own p.instructions h.phrases (omega (arith, h.few)) h.room in
    let ok = program-ok book [] p.own p.instructions h.phrases h.plain h.instructions h.room in
    let ls : lines_of Listing (listing_text p) ≡ program_lines p.own p.instructions =
    rw (← program-fields p) (lines-read book 1 nothing_seen end (program_lines p.own p.instructions) ok c) in
    let a = accept-read Listing book (listing_text p) end k (rw ls c) in
    let is = ap instructions_of ls ∙ program-instructions p.own p.instructions in
    rw (a, is, none-past (suc (length p.own)) p.instructions h.instructions)

-- ---- read, then written

abbrev program_of : Accepted → Program
program_of a = record { own = a.own; instructions = instructions_of a.lines }

-- an accepted listing has the lines of its program
accepted-lines : (book : List Text) (s : List ℕ) (a : Accepted) → Accepts Listing book s a
    → (a.lines ≡ program_lines a.own (instructions_of a.lines)) × (length (instructions_of a.lines) ≤ 512)
accepted-lines book s a c =
    let o = sorted book c.seen 1 nothing_seen a.lines c.valid c.passes in
    let own : o.own ≡ a.own = o.all_own ∙ sym c.own in
    let is = sym (program-instructions o.own o.instructions) ∙ ap instructions_of (sym o.lines) in
    (o.lines ∙ (λ i. program_lines (own i) (is i)), omega (arith, ap length is, o.counted, c.room))

accepted-text : (book : List Text) (s : List ℕ) (a : Accepted) → Accepts Listing book s a → listing_text (program_of a) ≡ s
unfolding listing_text
accepted-text book s a c =
    let passes = subst (Passes book 1 nothing_seen c.seen) c.lines c.passes in
    ap lines_text (sym (program-fields (program_of a)) ∙ ap (map line_fields) (sym (accepted-lines book s a c).0 ∙ c.lines))
    ∙ lines-written book 1 nothing_seen c.seen (split LF s) passes
    ∙ join-split LF s

accepted-ok : (book : List Text) (s : List ℕ) (a : Accepted) (n : ℕ) → Accepts Listing book s a
    → first_past n (instructions_of a.lines) ≡ none → ProgramOk book (program_of a)
accepted-ok book s a n c f =
    let l = accepted-lines book s a c in
    record {
      phrases = c.phrases;
      plain = c.plain;
      few = c.few;
      room = l.1;
      instructions = instructions-ok a.own n (instructions_of a.lines) (subst (LinesOk Listing) l.0 c.valid) f;
    }

within-made : (o : Option ℕ) (p q : Program) → within o p ≡ made q → (o ≡ none) × (p ≡ q)
within-made none p q h = (refl, cc)
within-made (some n) p q h = absurd (never h)

pub listing-written : (book : List Text) (s : List ℕ) (p : Program) → listing_program book s ≡ made p
    → ProgramOk book p × (listing_text p ≡ s) × (length s ≤ 327680)
unfolding listing_program
listing-written book s p h =
    let m = made-from (accept Listing book s) _ p h in
    let a = m.0 in
    let c = accepts Listing book s a m.1 in
    let w = within-made (first_past (suc (length a.own)) (instructions_of a.lines)) (program_of a) p m.2 in
    rw (← w.1) (accepted-ok book s a (suc (length a.own)) c w.0, accepted-text book s a c, c.size)
