-- Lines of a listing written as a text and read back, and read and written again.
use Prim.Native.Nat.{ℕ, suc}
use mathlib.Core.Path.{◌≡◌, refl, ◌∙◌}
use mathlib.Core.List.{List, [], ◌∷◌, ◌++◌, map}
use Rattle.causes.specs.declared.Cause.TheVariants.{Byte}
use Rattle.text.specs.Parts.{split, join, LF, comma}
use Rattle.text.specs.Text.{Text, text_byte}
use Rattle.text.proofs.Tests.{each-so}
use Rattle.text.proofs.Splits.{other, join-all}
use Rattle.text.proofs.Bytes.{text-no-LF}
use Rattle.lines.specs.declared.Form.TheVariants.{Listing}
use Rattle.lines.specs.Line.{Line, faulty, line_of, lines_in}
use Rattle.lines.specs.Check.{Seen, next, lines_of}
use Rattle.lines.proofs.Valid.{LinesOk}
use Rattle.lines.proofs.Passes.{Passes, no-fault}
use Rattle.lines.proofs.Accepts.{first-line}
use Rattle.listing.specs.Listing.{lines_text}
use Rattle.listing.proofs.ListingLines.{line_fields}
use Rattle.listing.proofs.LineRead.{fields-bytes, line_read}
use Rattle.listing.proofs.LineWritten.{line-written}

module _ (book : List Text) where
  pub lines-read : (n : ℕ) (s last : Seen) (ls : List Line) → LinesOk Listing ls → Passes book n s last ls
      → lines_of Listing (lines_text (map line_fields ls)) ≡ ls
  unfolding split lines_in lines_text
  lines-read n s last [] h p = refl
  lines-read n s last (l ∷ ls) h p =
      let good = each-so text_byte (other LF) text-no-LF (line_fields l) (fields-bytes l h.0.ok) in
      let first = line_read l h.0.ok (no-fault book s l p.0) in
      first-line Listing (join comma (line_fields l)) (lines_text (map line_fields ls)) (join-all comma (other LF) refl (line_fields l) good)
      ∙ (λ i. first i ∷ lines-read (suc n) (next n l s) last ls h.1 p.1 i)

  pub lines-written : (n : ℕ) (s last : Seen) (ps : List (List ℕ)) → Passes book n s last (lines_in Listing ps)
      → lines_text (map line_fields (lines_in Listing ps)) ≡ join LF ps
  unfolding lines_in lines_text join
  lines-written n s last [] p = refl
  lines-written n s last ([] ∷ []) p = refl
  lines-written n s last ((b ∷ t) ∷ []) p = absurd (no-fault book s (faulty Byte) p.0 Byte refl)
  lines-written n s last (t ∷ u ∷ ps) p =
      let l = line_of Listing t in
      let first = line-written t (no-fault book s l p.0) in
      λ i. first i ++ LF ∷ lines-written (suc n) (next n l s) last (u ∷ ps) p.1 i
