-- Line by line a listing's instructions are those of its definition, whatever table of skips there is.
use Prim.Native.Nat.{ℕ}
use mathlib.Core.Path.{◌≡◌, refl, ap₂}
use mathlib.Core.List.{List, [], ◌∷◌, ◌++◌}
use lib.ListN.{length, drop, get_or}
use Rattle.text.specs.Parts.{split, LF}
use Rattle.lines.specs.declared.Form.TheVariants.{Listing}
use Rattle.lines.specs.Line.{Line, phrase, says, if_line, else_line, fi_line, goto_line, if_skip_line, faulty}
use Rattle.lines.specs.Check.{lines_of}
use Rattle.lines.proofs.Valid.{LineOk, LinesOk, lines_ok}
use Rattle.listing.specs.Listing.{instruction_of, instructions_of}
use Rattle.assemble.specs.LineCode.{line_code, lines_code}

line_code_lem : (k : ℕ) (l : Line) → LineOk Listing l → line_code k l ≡ instruction_of l
line_code_lem k (phrase t) h = refl
line_code_lem k (says x) h = refl
line_code_lem k (if_line test) h = absurd h
line_code_lem k else_line h = absurd h
line_code_lem k fi_line h = refl
line_code_lem k (goto_line j) h = refl
line_code_lem k (if_skip_line test j) h = refl
line_code_lem k (faulty c) h = refl

lines_code_lem : (ks : List ℕ) (ls : List Line) → LinesOk Listing ls → lines_code ks ls ≡ instructions_of ls
unfolding lines_code instructions_of
lines_code_lem ks [] h = refl
lines_code_lem ks (l ∷ ls) h =
    let k = get_or ks 0 0 in
    ap₂ ◌++◌ (line_code_lem k l h.0.ok) (lines_code_lem (drop (length (line_code k l)) ks) ls h.1)

pub listing-code : (ks listing : List ℕ) → lines_code ks (lines_of Listing listing) ≡ instructions_of (lines_of Listing listing)
listing-code ks listing = lines_code_lem ks (lines_of Listing listing) (lines_ok Listing (split LF listing))
