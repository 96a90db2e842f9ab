-- No transcript of an accepted plate has more than 918,016 bytes: 1,793 for each of 512 instructions.
use Prim.Native.Nat.{ℕ, zero, suc, ◌+◌, ◌*◌, ◌≤◌}
use native.Mathlib.Omega.{arith}
use mathlib.Core.Path.{◌≡◌, ap}
use mathlib.Core.List.{List, [], ◌∷◌}
use mathlib.Core.Bool.{cond}
use lib.ListN.{length}
use lib.IntN.{ℤ}
use Rattle.causes.specs.Answers.{made, Output}
use Rattle.causes.specs.Limits.{most_transcript_bytes}
use Rattle.causes.proofs.Results.{made-from}
use Rattle.phrases.specs.Book.{book_phrases}
use Rattle.phrases.proofs.BookValid.{book-ok}
use Rattle.transcript.specs.State.{State, step, start, transcript_bytes}
use Rattle.transcript.specs.Perform.{Ending, goes_on, verdict, waits, outside, and_then, perform, holds, state_of, report}
use Rattle.machine.specs.Ranged.{Ranged}
use Rattle.statements.proofs.Longest.{written, perform-adds}
use Rattle.plate.specs.Program.{Instruction, statement, goto, if_skip}
use Rattle.plate.specs.Plate.{plate_program}
use Rattle.plate.proofs.Valid.{InstructionsOk}
use Rattle.plate.proofs.RoundTrip.{read-written}
use Rattle.listing.proofs.RoundTrips.{Bytes}
use Rattle.running.specs.Run.{run}
use Rattle.running.specs.Call.{ran}

-- what follows an ending adds at most n bytes
then-adds : (m : Ending) (f : State → Ending) (n : ℕ) → Ranged (state_of m).left
    → ((s : State) → Ranged s.left → written (state_of (f s)) ≤ written s + n) → written (state_of (and_then m f)) ≤ written (state_of m) + n
then-adds (goes_on s) f n h k = k s h
then-adds (verdict s) f n h k = omega arith
then-adds (waits wrong s) f n h k = omega arith
then-adds (outside s) f n h k = omega arith

run-adds : (is : List Instruction) → InstructionsOk is → (k : ℕ) (s : State) → Ranged s.left
    → written (state_of (run is k s)) ≤ written s + 1793 * length is
unfolding run
run-adds [] ok k s h = omega arith
run-adds (i ∷ is) ok (suc k) s h = omega (arith, run-adds is ok.1 k s h)
run-adds (statement x ∷ is) ok zero s h =
    let a = perform-adds x ok.0 s h in
    omega (arith, a.0, then-adds (perform x s) (run is 0) (1793 * length is) a.1 (run-adds is ok.1 0))
run-adds (goto skip ∷ is) ok zero s h = omega (arith, run-adds is ok.1 skip (step s) h)
run-adds (if_skip test skip ∷ is) ok zero s h = omega (arith, run-adds is ok.1 (cond (holds test s) 0 skip) (step s) h)

pub run-most : (is : List Instruction) (answers : List ℤ) → InstructionsOk is → length is ≤ 512 → Ranged answers
    → length (report (run is 0 (start answers))).bytes ≤ most_transcript_bytes
unfolding report start transcript_bytes
run-most is answers ok few h = omega (arith, run-adds is ok 0 (start answers) h)

-- of an accepted plate
pub ran-most : (book plate : List ℕ) (answers : List ℤ) (o : Output) → Bytes plate → Ranged answers → ran book plate answers ≡ made o
    → length o.bytes ≤ most_transcript_bytes
unfolding ran
ran-most book plate answers o bytes h e =
    let b = made-from (book_phrases book) _ o e in
    let p = made-from (plate_program b.0 plate) _ o b.2 in
    let ok = (read-written b.0 plate p.0 bytes (book-ok book b.0 b.1).0 p.1).0 in
    let same : report (run p.0.instructions 0 (start answers)) ≡ o = cc p.2 in
    rw (ap (λ (x : Output). x.bytes) same) at (run-most p.0.instructions answers ok.instructions ok.room h)
