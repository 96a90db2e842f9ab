-- Document 01, "Walk": the state of a walk or run, and the lines of its transcript.
use Rattle.std.specs.Prelude.{ℕ, suc, List, [], ◌∷◌, ◌++◌, replicate, ℤ, pos}
use Rattle.text.specs.Parts.{join, comma, LF}
use Rattle.text.specs.Text.{Text}
use Rattle.decimals.specs.Number.{decimal}
use Rattle.text.specs.Quoted.{bytes}

-- "Transcript lines"
pub data TranscriptLine : Type 0 where
  asked : Text → TranscriptLine
  offered : Text → List Text → TranscriptLine
  answered : ℤ → TranscriptLine
  shown : Text → TranscriptLine
  ruled : Text → TranscriptLine

-- "`Q,TEXT` for input; `C,TEXT,OPTION,..` for inputs; `A,number` for the answer taken; `S,TEXT` for print; `V,TEXT` for printex"
abbrev pub fields_of : TranscriptLine → List Text
fields_of (asked t) = bytes "Q" ∷ t ∷ []
fields_of (offered t options) = bytes "C" ∷ t ∷ options
fields_of (answered a) = bytes "A" ∷ decimal a ∷ []
fields_of (shown t) = bytes "S" ∷ t ∷ []
fields_of (ruled t) = bytes "V" ∷ t ∷ []

-- "each ended by LF"
unfoldable pub line_bytes : TranscriptLine → List ℕ
line_bytes l = join comma (fields_of l) ++ (LF ∷ [])

-- the lines, one behind the other
unfoldable pub transcript_bytes : List TranscriptLine → List ℕ
transcript_bytes [] = []
transcript_bytes (l ∷ ls) = line_bytes l ++ transcript_bytes ls

-- "State: 32 registers, the number of answers taken and the number of steps .. and the transcript"
pub record State : Type 0 where
  pub registers : List ℤ
  -- the answers not taken yet
  pub left : List ℤ
  pub taken : ℕ
  pub steps : ℕ
  pub transcript : List TranscriptLine

-- "all 0 at first, and the transcript, empty at first"
unfoldable pub start : List ℤ → State
start answers = record { registers = replicate 32 (pos 0); left = answers; taken = 0; steps = 0; transcript = [] }

-- one step more
abbrev pub step : State → State
step s =
    record {
      registers = s.registers;
      left = s.left;
      taken = s.taken;
      steps = suc s.steps;
      transcript = s.transcript;
    }

-- one line more
abbrev pub write_line : TranscriptLine → State → State
write_line l s =
    record {
      registers = s.registers;
      left = s.left;
      taken = s.taken;
      steps = s.steps;
      transcript = s.transcript ++ (l ∷ []);
    }
