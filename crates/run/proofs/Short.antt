-- No run's transcript is longer than three times the room of its instructions' lines in a listing, less 4 bytes for each instruction, and 14
-- bytes for each answer: `print,TEXT` writes `S,TEXT`, the lines of the other statements have more bytes still, a C line is written at most three
-- times, and an A line has at most 14.
use Prim.Native.Nat.{ℕ, zero, suc, ◌+◌, ◌*◌, ◌≤◌, ◌<◌}
use mathlib.Core.Path.{◌≡◌, refl}
use mathlib.Core.List.{List, [], ◌∷◌}
use mathlib.Core.Bool.{cond}
use native.Mathlib.Omega.{arith}
use lib.ListN.{length, length-append}
use lib.IntN.{ℤ}
use Rattle.text.specs.Parts.{join}
use Rattle.text.specs.Text.{Text}
use Rattle.transcript.specs.Statement.{Statement, input, inputs, print, printex}
use Rattle.transcript.specs.Offered.{options_bytes}
use Rattle.transcript.specs.State.{offered, line_bytes, transcript_bytes, State, start, step}
use Rattle.transcript.specs.Perform.{Ending, goes_on, verdict, waits, outside, and_then, perform, holds, state_of, report}
use Rattle.transcript.specs.declared.Performed.{Performed}
use Rattle.transcript.specs.Machine.{laid, performed}
use Rattle.transcript.proofs.Offers.{offered-bytes}
use Rattle.causes.specs.Answers.{made, lent}
use Rattle.causes.specs.Answers as result
use Rattle.causes.specs.Causes.{outcome_number, wrong_answers}
use Rattle.output.proofs.Poured.{ended}
use Rattle.machine.specs.Ranged.{Ranged}
use Rattle.machine.proofs.Follow.{lay-bytes}
use Rattle.machine.proofs.Passes.{whole}
use Rattle.statements.proofs.Performs.{first_line}
use Rattle.statements.proofs.Rooms.{state_room, perform-room, perform-once, answers-room}
use Rattle.phrases.specs.Phrases.{Phrases}
use Rattle.plate.specs.Program.{Instruction, statement, goto, if_skip}
use Rattle.plate.specs.Plate.{instruction}
use Rattle.listing.specs.LineSizes.{line_room, lines_room}
use Rattle.reader.specs.declared.Contents.{Contents}
use Rattle.reader.specs.Holding.{instructions_at, program_at, Stands}
use Rattle.reader.proofs.Next.{there-length}
use Rattle.running.specs.Run.{run}

-- ---- an instruction

offered-size : (t : Text) (os : List Text) → length (line_bytes (offered t os)) ≡ 3 + length t + length (options_bytes os)
offered-size t os = rw (← offered-bytes t os) (simp length-append (omega arith))

-- a statement's line in the transcript is shorter than that in the listing
line-short : (x : Statement) → length (line_bytes (first_line x)) + 4 ≤ line_room (statement x)
unfolding line_bytes join
line-short (input r t) = simp length-append (omega arith)
line-short (inputs r t os) = omega (arith, offered-size t os)
line-short (print t) = simp length-append (omega arith)
line-short (printex t) = simp length-append (omega arith)

some-room : (i : Instruction) → 4 ≤ line_room i
some-room (statement x) = omega (arith, line-short x)
some-room (goto k) = omega arith
some-room (if_skip t k) = omega arith

-- ---- a run

many-room : (xs : List Instruction) → 4 * length xs ≤ lines_room xs
many-room [] = omega arith
many-room (x ∷ xs) = omega (arith, many-room xs, some-room x)

-- what an ending writes, with the answers that it leaves
abbrev Within : ℕ → State → List Instruction → Ending → Type 0
Within n s xs e = state_room (state_of e) + 12 * n ≤ state_room s + 3 * lines_room xs

run_room : (xs : List Instruction) (over : ℕ) (s : State) → Within (length xs) s xs (run xs over s)
unfolding run
run_room [] over s = omega arith
run_room (x ∷ xs) (suc over) s = omega (arith, run_room xs over s, some-room x)
run_room (statement x ∷ xs) zero s = go (perform x s) (perform-room x s) (λ u. run_room xs 0 u)
  where
    go : (e : Ending) → state_room (state_of e) ≤ state_room s + 3 * length (line_bytes (first_line x))
        → ((u : State) → Within (length xs) u xs (run xs 0 u)) → Within (suc (length xs)) s (statement x ∷ xs) (and_then e (run xs 0))
    go (goes_on u) g rest = omega (arith, rest u, line-short x)
    go (verdict u) g rest = omega (arith, many-room xs, line-short x)
    go (waits wrong u) g rest = omega (arith, many-room xs, line-short x)
    go (outside u) g rest = omega (arith, many-room xs, line-short x)
run_room (goto skip ∷ xs) zero s = omega (arith, run_room xs skip (step s), some-room (goto skip))
run_room (if_skip test skip ∷ xs) zero s =
    omega (arith, run_room xs (cond (holds test s) 0 skip) (step s), some-room (if_skip test skip))

-- with no answers
abbrev Once : ℕ → State → List Instruction → Ending → Type 0
Once n s xs e = length (transcript_bytes (state_of e).transcript) + 4 * n ≤ length (transcript_bytes s.transcript) + lines_room xs

run-once : (xs : List Instruction) (over : ℕ) (s : State) → s.left ≡ [] → Once (length xs) s xs (run xs over s)
unfolding run
run-once [] over s h = omega arith
run-once (x ∷ xs) (suc over) s h = omega (arith, run-once xs over s h, some-room x)
run-once (statement x ∷ xs) zero s h = go (perform x s) (perform-once s h x) (λ u k. run-once xs 0 u k)
  where
    go : (e : Ending)
        → (length (transcript_bytes (state_of e).transcript) ≤ length (transcript_bytes s.transcript) + length (line_bytes (first_line x))) × ((state_of e).left ≡ [])
        → ((u : State) → u.left ≡ [] → Once (length xs) u xs (run xs 0 u)) → Once (suc (length xs)) s (statement x ∷ xs) (and_then e (run xs 0))
    go (goes_on u) g rest = omega (arith, g.0, rest u g.1, line-short x)
    go (verdict u) g rest = omega (arith, g.0, many-room xs, line-short x)
    go (waits wrong u) g rest = omega (arith, g.0, many-room xs, line-short x)
    go (outside u) g rest = omega (arith, g.0, many-room xs, line-short x)
run-once (goto skip ∷ xs) zero s h = omega (arith, run-once xs skip (step s) h, some-room (goto skip))
run-once (if_skip test skip ∷ xs) zero s h =
    omega (arith, run-once xs (cond (holds test s) 0 skip) (step s) h, some-room (if_skip test skip))

-- ---- what is written

-- the first pass has found the length
pub second : (e : Ending) (answers rs us : List ℤ) (p q : Performed) (x b o out : List ℕ) → performed rs answers p x ≡ laid 0 e b
    → performed us answers q o ≡ laid 0 e out → p.end ≤ length out → length out < 9223372036854775808
    → (result.ended q.end (outcome_number q.outcome) q.machine.taken q.machine.steps (wrong_answers q.outcome), o) ≡ lent (made (report e)) out
second e answers rs us p q x b o out h k l f =
    let new = transcript_bytes (state_of e).transcript in
    whole us answers e q o out k us q o out k
    (omega (arith, ended 0 new b p.end x (lay-bytes rs answers p x 0 e b h), ended 0 new out q.end o (lay-bytes us answers q o 0 e out k))) f

-- no answers
none_of : (answers : List ℤ) → length answers ≡ 0 → answers ≡ []
none_of [] e = refl
none_of (a ∷ rest) e = absurd (omega arith)

-- ---- a plate's run

module _ (plate : List ℕ) (ps : Phrases) (c : Contents) (a : Stands plate ps c) (answers : List ℤ) (f : Ranged answers) where
  abbrev ending : Ending
  ending = run (program_at plate ps c).instructions 0 (start answers)

  run_short : length (transcript_bytes (state_of ending).transcript) + 12 * c.instructions ≤ 3 * lines_room (program_at plate ps c).instructions + 14 * length answers
  unfolding program_at instructions_at start transcript_bytes
  run_short =
      let n = there-length (instruction ps) plate a.whole in
      omega (arith, n, run_room (program_at plate ps c).instructions 0 (start answers), answers-room answers f)

  -- a buffer that holds so many bytes needs no first pass: with no answers
  pub straight-once : (rs : List ℤ) (p : Performed) (o out : List ℕ) → performed rs answers p o ≡ laid 0 ending out
      → length answers ≡ 0 → c.room ≤ length out + 4 * c.instructions → length out < 9223372036854775808
      → (result.ended p.end (outcome_number p.outcome) p.machine.taken p.machine.steps (wrong_answers p.outcome), o) ≡ lent (made (report ending)) out
  unfolding program_at instructions_at start transcript_bytes
  straight-once rs p o out k m h l =
      let new = transcript_bytes (state_of ending).transcript in
      let n = there-length (instruction ps) plate a.whole in
      let once = run-once (program_at plate ps c).instructions 0 (start answers) (none_of answers m) in
      whole rs answers ending p o out k rs p o out k
      (omega (arith, n, once, a.few, a.counted, ended 0 new out p.end o (lay-bytes rs answers p o 0 ending out k))) l

  -- with some
  pub straight : (rs : List ℤ) (p : Performed) (o out : List ℕ) → performed rs answers p o ≡ laid 0 ending out
      → c.room ≤ 16777216 → 3 * c.room + 14 * length answers ≤ length out + 12 * c.instructions → length out < 9223372036854775808
      → (result.ended p.end (outcome_number p.outcome) p.machine.taken p.machine.steps (wrong_answers p.outcome), o) ≡ lent (made (report ending)) out
  unfolding program_at
  straight rs p o out k m h l =
      let new = transcript_bytes (state_of ending).transcript in
      whole rs answers ending p o out k rs p o out k
      (omega (arith, run_short, a.few, a.counted, ended 0 new out p.end o (lay-bytes rs answers p o 0 ending out k))) l
