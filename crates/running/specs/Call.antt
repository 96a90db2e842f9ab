-- The call `run`: its inputs and the lent buffer at entry, to its answer and the buffer at exit. The scratch's content afterwards is
-- open: "Scratch: .. free in content afterwards." (document 01, "Run")
use Rattle.std.specs.Prelude.{ℕ, List, cond, leb, ℤ}
use Rattle.causes.specs.Answers.{Result, made, refused, ◌>>=◌, Answer, Output, lent}
use Rattle.causes.specs.declared.Cause.TheVariants.{TooShort}
use Rattle.phrases.specs.Book.{book_phrases}
use Rattle.transcript.specs.State.{start}
use Rattle.transcript.specs.Perform.{report}
use Rattle.plate.specs.Plate.{plate_program}
use Rattle.running.specs.Run.{run}

-- document 02, l): "The panel group has 64 16-bit numbers to lend, not 512. .. For scratch, cause 11 now means fewer than 64"
abbrev pub scratch_numbers : ℕ
scratch_numbers = 64

-- "scratch too short": 11
abbrev pub enough_scratch : ℕ → Output → Result Output
enough_scratch scratch o = cond (leb scratch_numbers scratch) (made o) (refused TooShort 0)

-- "The whole plate is read first": 1, 10, then 12, 13, 14, 8, then 15
unfoldable pub ran : List ℕ → List ℕ → List ℤ → Result Output
ran book plate answers = do
  phrases ← book_phrases book
  p ← plate_program phrases plate
  made (report (run p.instructions 0 (start answers)))

-- then 11; scratch is the number of 16-bit numbers lent
unfoldable pub run_call : List ℕ → List ℕ → List ℤ → ℕ → List ℕ → Answer × List ℕ
run_call plate book answers scratch transcript = lent (ran book plate answers >>= enough_scratch scratch) transcript
