-- The call `translate`: its inputs and the lent buffer at entry, to its answer and the buffer at exit.
use Rattle.std.specs.Prelude.{ℕ, List}
use Rattle.causes.specs.Answers.{Result, made, ◌>>=◌, Answer, output, lent}
use Rattle.phrases.specs.Book.{book_phrases}
use Rattle.guide.specs.Guide.{guide_of}
use Rattle.plate.specs.Writing.{plate_bytes, plate_sized}
use Rattle.translating.specs.Translation.{translate_guide}

-- the plate of a guide: 1, 2, 3 to 7 and 9, 10
unfoldable pub translation : List ℕ → List ℕ → Result (List ℕ)
translation book guide = do
  phrases ← book_phrases book
  block ← guide_of phrases guide
  plate_sized (plate_bytes phrases (translate_guide block))

-- then 11
unfoldable pub translate_call : List ℕ → List ℕ → List ℕ → Answer × List ℕ
translate_call guide book buffer = lent (translation book guide >>= λ bs. made (output bs)) buffer
