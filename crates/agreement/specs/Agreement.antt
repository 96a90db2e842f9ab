-- Demand 3: what is claimed of a guide, the plate that the translation makes of it, a list of answers, a scratch and a transcript buffer.
use Rattle.std.specs.Prelude.{ℕ, ◌≤◌, ◌<◌, ◌≡◌, List, ◌++◌, ◌↔◌, length, drop, ℤ}
use Rattle.causes.specs.Answers.{made, ended, refusal}
use Rattle.causes.specs.Causes.{outcome_number, wrong_answers}
use Rattle.text.specs.Text.{Text}
use Rattle.phrases.specs.Book.{book_phrases}
use Rattle.transcript.specs.State.{start, transcript_bytes}
use Rattle.transcript.specs.Perform.{Ending, outcome_of, state_of}
use Rattle.transcript.specs.Waiting.{Unanswered}
use Rattle.guide.specs.Block.{Block}
use Rattle.guide.specs.Guide.{guide_of}
use Rattle.plate.specs.Program.{Program}
use Rattle.plate.specs.Plate.{plate_program}
use Rattle.walking.specs.Walk.{walk}
use Rattle.walking.specs.Call.{walk_call}
use Rattle.running.specs.Steps.{most_steps_of}
use Rattle.running.specs.Call.{run_call}

-- the walk of a guide on a list of answers
abbrev pub the_walk : Block → List ℤ → Ending
the_walk g answers = walk g (start answers)

-- its transcript
abbrev pub the_transcript : Block → List ℤ → List ℕ
the_transcript g answers = transcript_bytes (state_of (the_walk g answers)).transcript

-- the claim, in the order of the demand's sentences
pub record Agreement (book guide plate : List ℕ) (answers : List ℤ) (scratch : ℕ) (buffer : List ℕ) : Type 0 where
  -- what the book, the guide and the plate hold
  pub phrases : List Text
  pub g : Block
  pub p : Program
  pub book-holds : book_phrases book ≡ made phrases
  pub guide-holds : guide_of phrases guide ≡ made g
  pub plate-holds : plate_program phrases plate ≡ made p
  -- "running P with B on A gives what document 01's walk of G on A gives": the answer and the buffer
  pub same : run_call plate book answers scratch buffer ≡ walk_call guide book answers buffer
  -- "The run is refused exactly when the walk's transcript is longer than the buffer, with cause 11 and the buffer as it was."
  pub too_long : length buffer < length (the_transcript g answers) → run_call plate book answers scratch buffer ≡ (refusal 11 0, buffer)
  -- "Otherwise the run's transcript is the walk's .. at the front of the buffer, whose other bytes stay. Outcome, answers taken and
  -- steps are then the walk's too."
  pub otherwise : length (the_transcript g answers) ≤ length buffer
      → run_call plate book answers scratch buffer
      ≡ (
        ended
            (length (the_transcript g answers))
            (outcome_number (outcome_of (the_walk g answers)))
            (state_of (the_walk g answers)).taken
            (state_of (the_walk g answers)).steps
            (wrong_answers (outcome_of (the_walk g answers))),
        the_transcript g answers ++ drop (length (the_transcript g answers)) buffer,
      )
  -- "the steps are now at most the instructions plus two for each inputs"
  pub steps : (state_of (the_walk g answers)).steps ≤ most_steps_of p.instructions
  -- "it waits exactly when the walk writes a question's line and finds no answer left for it"
  pub waits : (outcome_number (outcome_of (the_walk g answers)) ≡ 2) ↔ Unanswered (state_of (the_walk g answers))
  -- and then there were at most two wrong answers to the present question
  pub few : outcome_number (outcome_of (the_walk g answers)) ≡ 2 → wrong_answers (outcome_of (the_walk g answers)) ≤ 2
