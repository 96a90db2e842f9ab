-- More answers only lengthen the record: of the call `run`, with room for both.
use Prim.Native.Nat.{ℕ, ◌≤◌}
use native.Mathlib.Omega.{arith}
use mathlib.Core.Path.{◌≡◌, sym, ap, ◌∙◌}
use mathlib.Core.List.{List, ◌++◌, append_assoc}
use mathlib.Core.Bool.{Bool, true, false, cond}
use lib.ListN.{length, take, length-append}
use lib.Seq.{take_at}
use lib.Dec.{leb}
use lib.IntN.{ℤ}
use Rattle.causes.specs.Answers.{Result, made, refused, ◌>>=◌, ended, Output}
use Rattle.causes.specs.Causes.{outcome_number}
use Rattle.causes.specs.declared.Cause.TheVariants.{TooShort}
use Rattle.causes.proofs.Results.{never, made-from}
use Rattle.phrases.specs.Book.{book_phrases}
use Rattle.transcript.specs.State.{start}
use Rattle.transcript.specs.Perform.{Ending, outcome_of, report}
use Rattle.plate.specs.Program.{Program}
use Rattle.plate.specs.Plate.{plate_program}
use Rattle.running.specs.Run.{run}
use Rattle.running.specs.More.{Lengthens, CallsLengthen}
use Rattle.running.specs.Call.{scratch_numbers, enough_scratch, ran, run_call}
use Rattle.running.proofs.Ended.{lent-ended}
use Rattle.running.proofs.More.{run_more}

-- two endings whose reports were answered, each at the front of its buffer
module _ (short long : Ending) (h : Lengthens short long) (n o k s w n' o' k' s' w' : ℕ) (after after' rest rest' : List ℕ)
    (e : (report short).answer ≡ ended n o k s w) (f : (report long).answer ≡ ended n' o' k' s' w')
    (laid : after ≡ (report short).bytes ++ rest) (laid' : after' ≡ (report long).bytes ++ rest') where
  outcome : outcome_number (outcome_of short) ≡ o
  unfolding report
  outcome = cc

  size : length (report short).bytes ≡ n
  unfolding report
  size = cc

  front : take n after ≡ (report short).bytes
  front = ap (take n) laid ∙ take_at (report short).bytes rest n size

  still : o ≡ 2 → (n ≤ n') × (take n after' ≡ take n after)
  unfolding report
  still two =
      let b = h.waiting (outcome ∙ two) in
      let l = ap length b.1 ∙ length-append (report short).bytes b.0 in
      let long-size : length (report long).bytes ≡ n' = cc in (
        omega (arith, size),
        ap (take n) (laid' ∙ ap (λ (bs : List ℕ). bs ++ rest') b.1 ∙ append_assoc (report short).bytes b.0 rest')
            ∙ take_at (report short).bytes (b.0 ++ rest') n size
            ∙ sym front,
      )

  settled : (o ≡ 2 → ⊥) → (ended n' o' k' s' w' ≡ ended n o k s w) × (take n after' ≡ take n after)
  settled other =
      let r = h.otherwise (λ two. other (sym outcome ∙ two)) in (
        sym f ∙ ap (λ (x : Output). x.answer) r ∙ e,
        ap (take n) (laid' ∙ ap (λ (x : Output). x.bytes ++ rest') r) ∙ take_at (report short).bytes rest' n size ∙ sym front,
      )

  pub both : (o ≡ 2 → (n ≤ n') × (take n after' ≡ take n after))
      × ((o ≡ 2 → ⊥) → (ended n' o' k' s' w' ≡ ended n o k s w) × (take n after' ≡ take n after))
  both = (still, settled)

-- what a run has made, where there was scratch enough
enough-made : (scratch : ℕ) (m : Result Output) (x : Output) → (m >>= enough_scratch scratch) ≡ made x → m ≡ made x
enough-made scratch (refused c n) x e = absurd (never e)
enough-made scratch (made y) x e = go (leb scratch_numbers scratch) e
  where
    go : (v : Bool) → cond v (made y) (refused TooShort 0) ≡ made x → made y ≡ made x
    go true e = e
    go false e = absurd (never e)

module _ (plate book : List ℕ) (answers : List ℤ) (scratch : ℕ) (buffer after : List ℕ) (n o k s w : ℕ)
    (e : run_call plate book answers scratch buffer ≡ (ended n o k s w, after)) where
  -- the plate was accepted, and its run is reported
  pub record Runs : Type 0 where
    pub phrases : List (List ℕ)
    pub program : Program
    pub book-holds : book_phrases book ≡ made phrases
    pub plate-holds : plate_program phrases plate ≡ made program
    pub reports : (report (run program.instructions 0 (start answers))).answer ≡ ended n o k s w
    pub rest : List ℕ
    pub laid : after ≡ (report (run program.instructions 0 (start answers))).bytes ++ rest

  pub run-ended : Runs
  unfolding run_call ran
  run-ended =
      let l = lent-ended (ran book plate answers >>= enough_scratch scratch) buffer after n o k s w e in
      let m = enough-made scratch (ran book plate answers) l.out l.makes in
      let b = made-from (book_phrases book) _ l.out m in
      let p = made-from (plate_program b.0 plate) _ l.out b.2 in
      let same : report (run p.0.instructions 0 (start answers)) ≡ l.out = cc in
      record {
        phrases = b.0;
        program = p.0;
        book-holds = b.1;
        plate-holds = p.1;
        reports = ap (λ (x : Output). x.answer) same ∙ l.answers;
        rest = l.rest;
        laid = l.laid ∙ ap (λ (x : Output). x.bytes ++ l.rest) (sym same);
      }

-- "For every accepted plate, book, list A and list B, with room for both: if the run on A waits, the transcript of A followed by B begins with
-- that of A; if it ended in any other way, both runs agree in transcript, outcome, answers taken and steps."
pub call-more : (plate book : List ℕ) (answers more : List ℤ) (scratch : ℕ) (buffer buffer' : List ℕ)
    → CallsLengthen (run_call plate book answers scratch buffer) (run_call plate book (answers ++ more) scratch buffer')
call-more plate book answers more scratch buffer buffer' n o k s w n' o' k' s' w' e f =
    let after = (run_call plate book answers scratch buffer).1 in
    let after' = (run_call plate book (answers ++ more) scratch buffer').1 in
    let a = run-ended plate book answers scratch buffer after n o k s w (λ i. (e i, after)) in
    let b = run-ended plate book (answers ++ more) scratch buffer' after' n' o' k' s' w' (λ i. (f i, after')) in
    let phrases : b.phrases ≡ a.phrases = cc in
    let program : b.program ≡ a.program = cc in
    let h = run_more a.program.instructions answers more in
    let g = rw program at b.reports in
    let l = rw program at b.laid in
    let r = both _ _ h n o k s w n' o' k' s' w' after after' a.rest b.rest a.reports g a.laid l in
    (r.0, λ other. (f ∙ (r.1 other).0 ∙ sym e, (r.1 other).1))
