-- The call `walk`: its inputs and the lent buffer at entry, to its answer and the buffer at exit.
use Rattle.std.specs.Prelude.{ℕ, List, ℤ}
use Rattle.causes.specs.Answers.{Result, made, ◌>>=◌, Answer, Output, lent}
use Rattle.phrases.specs.Book.{book_phrases}
use Rattle.transcript.specs.State.{start}
use Rattle.transcript.specs.Perform.{report}
use Rattle.guide.specs.Guide.{guide_of}
use Rattle.walking.specs.Walk.{walk}

-- "The walker gives 1 to 7, 9 and 11"
unfoldable pub walked : List ℕ → List ℕ → List ℤ → Result Output
walked book guide answers = do
  phrases ← book_phrases book
  block ← guide_of phrases guide
  made (report (walk block (start answers)))

-- then 11
unfoldable pub walk_call : List ℕ → List ℕ → List ℤ → List ℕ → Answer × List ℕ
walk_call guide book answers transcript = lent (walked book guide answers) transcript
