-- What the code is told of a text, what it answers, and what it leaves in the lent buffer.
use Rattle.std.specs.Prelude.{ℕ, suc, ◌≤◌, ◌≡◌, List, length, Result, Ok, Err}
use Rattle.std.proofs.Math.Option.{none, some}
use Rattle.causes.specs.Answers.{made, ◌>>=◌, Answer, output, lent}
use Rattle.causes.specs.Limits.{most_instructions}
use Rattle.causes.specs.declared.Cause.TheVariants.{Skip}
use Rattle.causes.specs.declared.Refusal.{Refusal}
use Rattle.output.specs.Pour.{poured}
use Rattle.bits.specs.Bits.{bytes_bits, filled}
use Rattle.text.specs.Text.{Text}
use Rattle.lines.specs.declared.Form.{Form}
use Rattle.lines.specs.Check.{lines_of}
use Rattle.lines.specs.Clean.{Clean}
use Rattle.plate.specs.Program.{Program}
use Rattle.plate.specs.Writing.{program_bits, plate_bytes, plate_sized}
use Rattle.listing.specs.Listing.{first_past, skips_within}
use Rattle.assemble.specs.LineCode.{lines_code}

-- no line of the text has a cause by itself, and it has n instructions
pub record Counted (form : Form) (skips text : List ℕ) (n : ℕ) : Type 0 where
  pub clean : Clean form text
  pub count : n ≡ length (lines_code skips (lines_of form text))
  pub few : n ≤ most_instructions

-- the plate of a program in a lent buffer: 8, then 10, then 11
abbrev pub lent_program : List Text → Program → List ℕ → Answer × List ℕ
lent_program book p buffer = lent ((skips_within p >>= λ q. plate_sized (plate_bytes book q)) >>= λ bs. made (output bs)) buffer

-- one pass over the lines: 8 at the first line whose skip goes past, and the buffer is then free in content; or the plate's bits, as far as the
-- buffer goes
unfoldable pub Produced : List Text → Program → List ℕ → Result ℕ Refusal → List ℕ → Type 0
Produced book p old (Err r) new = (r.cause ≡ Skip) × (first_past (suc (length p.own)) p.instructions ≡ some r.place)
Produced book p old (Ok n) new =
    (first_past (suc (length p.own)) p.instructions ≡ none) × ((n, bytes_bits new) ≡ poured 0 (filled (program_bits book p)) (bytes_bits old))
