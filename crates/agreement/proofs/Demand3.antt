-- Demand 3, whole: for every book, guide and plate that the translation makes of it, every list of answers, every buffer of any length
-- and content, and every scratch of at least `scratch_numbers` numbers, the run of the plate is the walk of the guide.
use Prim.Native.Nat.{ℕ, ◌≤◌}
use mathlib.Core.Path.{◌≡◌, sym, subst, ◌∙◌}
use mathlib.Core.List.{List}
use lib.ListN.{length}
use lib.IntN.{ℤ}
use borrow.Author.Tests.{le-leb, lt-leb}
use Rattle.causes.specs.Answers.{made, lent}
use Rattle.causes.proofs.Results.{made-from}
use Rattle.text.specs.Text.{Text}
use Rattle.phrases.specs.Book.{book_phrases}
use Rattle.transcript.specs.State.{start}
use Rattle.transcript.specs.Perform.{state_of, report}
use Rattle.guide.specs.Block.{Block}
use Rattle.guide.specs.Guide.{guide_of}
use Rattle.plate.specs.Writing.{plate_bytes, plate_sized}
use Rattle.plate.specs.Plate.{plate_program}
use Rattle.plate.proofs.RoundTrip.{written_read}
use Rattle.plate.proofs.Sized.{sized-made}
use Rattle.transcript.proofs.Few.{Few}
use Rattle.walking.specs.Call.{walked, walk_call}
use Rattle.walking.proofs.Waits.{walk-waits}
use Rattle.running.specs.Call.{scratch_numbers, ran, run_call}
use Rattle.running.specs.Steps.{most_steps_of}
use Rattle.running.proofs.Steps.{run-steps}
use Rattle.running.proofs.Few.{run-few}
use Rattle.translating.specs.Translation.{translate_block, translate_guide}
use Rattle.translating.specs.Call.{translation}
use Rattle.agreement.specs.Agreement.{the_walk, the_transcript, Agreement}
use Rattle.agreement.proofs.Agreement.{agree, agree-report}
use Rattle.agreement.proofs.Valid.{guide-valid}

module _ (book guide plate : List ℕ) (phrases : List Text) (g : Block) (b : book_phrases book ≡ made phrases)
    (e : guide_of phrases guide ≡ made g) (f : plate_sized (plate_bytes phrases (translate_guide g)) ≡ made plate) where
  -- the plate holds the guide's program
  holds : plate_program phrases plate ≡ made (translate_guide g)
  holds =
      let s = sized-made (plate_bytes phrases (translate_guide g)) plate f in
      subst (λ (bs : List ℕ). plate_program phrases bs ≡ made (translate_guide g)) s.1
      (written_read phrases (translate_guide g) (guide-valid phrases guide g e) s.0)

  module _ (answers : List ℤ) (scratch : ℕ) (buffer : List ℕ) (enough : scratch_numbers ≤ scratch) where
    walk-lent : walk_call guide book answers buffer ≡ lent (made (report (the_walk g answers))) buffer
    unfolding walk_call walked
    walk-lent = rw (b, e)

    run_lent : run_call plate book answers scratch buffer ≡ lent (made (report (the_walk g answers))) buffer
    unfolding run_call ran translate_guide
    run_lent = rw (b, holds, le-leb scratch_numbers scratch enough, agree-report g answers)

    steps-few : (state_of (the_walk g answers)).steps ≤ most_steps_of (translate_guide g).instructions
    unfolding translate_guide
    steps-few = rw (agree g (start answers)) at (run-steps (translate_block g) answers)

    wrong-few : Few (the_walk g answers)
    wrong-few = rw (agree g (start answers)) at (run-few (translate_block g) 0 (start answers))

    agreement : Agreement book guide plate answers scratch buffer
    unfolding report
    agreement =
        record {
          phrases = phrases;
          g = g;
          p = translate_guide g;
          book-holds = b;
          guide-holds = e;
          plate-holds = holds;
          same = run_lent ∙ sym walk-lent;
          too_long = λ h. run_lent ∙ rw (lt-leb (length (the_transcript g answers)) (length buffer) h);
          otherwise = λ h. run_lent ∙ rw (le-leb (length (the_transcript g answers)) (length buffer) h);
          steps = steps-few;
          waits = walk-waits g answers;
          few = wrong-few;
        }

pub demand-3 : (book guide plate : List ℕ) → translation book guide ≡ made plate → (answers : List ℤ) (scratch : ℕ) (buffer : List ℕ)
    → scratch_numbers ≤ scratch → Agreement book guide plate answers scratch buffer
unfolding translation
demand-3 book guide plate e =
    let b = made-from (book_phrases book) _ plate e in
    let g = made-from (guide_of b.0 guide) _ plate b.2 in
    agreement book guide plate b.0 g.0 b.1 g.1 g.2
