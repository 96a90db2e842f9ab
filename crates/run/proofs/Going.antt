-- A run over the instructions of a plate, one by one.
use Prim.Native.Nat.{ℕ, ◌-◌, ◌≤◌, ◌<◌}
use mathlib.Core.Path.{◌≡◌, sym, ap, ◌∙◌}
use mathlib.Core.List.{List, ◌∷◌}
use lib.ListN.{length}
use lib.IntN.{ℤ}
use Rattle.causes.specs.declared.Outcome.{Outcome}
use Rattle.causes.specs.declared.Outcome.TheVariants.{End}
use Rattle.phrases.specs.Phrases.{Phrases}
use Rattle.transcript.specs.declared.Machine.{Machine}
use Rattle.transcript.specs.declared.Performed.{Performed}
use Rattle.transcript.specs.State.{State, start}
use Rattle.transcript.specs.Perform.{Ending, and_then}
use Rattle.transcript.specs.Machine.{machine_state, ending_by, Laid, laid, performed}
use Rattle.machine.proofs.Lay.{lay-here}
use Rattle.machine.proofs.Follow.{lay-ended, lay-goes}
use Rattle.plate.specs.Program.{Instruction}
use Rattle.plate.specs.Plate as reader
use Rattle.plate.specs.Reading.{Read, got}
use Rattle.fields.specs.Places.{place_at, end_with, Known}
use Rattle.plate_texts.proofs.Ended.{ended_some}
use Rattle.instructions.specs.Heads.{instruction_of}
use Rattle.reader.specs.declared.Contents.{Contents}
use Rattle.reader.specs.Holding.{instructions_at, program_at}
use Rattle.running.specs.Run.{run}
use Rattle.running.proofs.Natural.{run-natural}
use Rattle.run_steps.specs.Meets.{left_by, over_by}
use Rattle.run.specs.Accepted.{Continues}
use Rattle.run.proofs.Nexts.{next-read, next-there, none_left}
use Rattle.run_steps.proofs.Meeting.{run-first}

-- ---- what follows an instruction

module _ (rs answers : List ℤ) (p : Performed) (o : List ℕ) (at over : ℕ) (x : Instruction) (s : State) (out : List ℕ)
    (h : performed rs answers p o ≡ laid at (left_by over x s) out) (xs ys : List Instruction) (split : ys ≡ x ∷ xs) where
  whole : and_then (left_by over x s) (run xs (over_by over x s)) ≡ run ys over s
  whole = run-first over x xs s ∙ ap (λ (is : List Instruction). run is over s) (sym split)

  -- the run has ended
  pub lay-stopped : (p.outcome ≡ End → ⊥) → performed rs answers p o ≡ laid at (run ys over s) out
  lay-stopped n =
      lay-ended rs answers p o at (left_by over x s) (run xs (over_by over x s)) out h n ∙ ap (λ (e : Ending). laid at e out) whole

  -- it goes on
  pub lay-onward : (k : ℕ) → p.outcome ≡ End → k ≡ over_by over x s → length out < 9223372036854775808
      → laid p.end (run xs k (machine_state rs answers p.machine)) o ≡ laid at (run ys over s) out
  lay-onward k e z l =
      ap (λ (n : ℕ). laid p.end (run xs n (machine_state rs answers p.machine)) o) z
      ∙ lay-goes rs answers p o at (left_by over x s) (run xs (over_by over x s)) out h e (run-natural xs (over_by over x s)) l
      ∙ ap (λ (e : Ending). laid at e out) whole

-- ---- the instructions, one by one

module _ (plate : List ℕ) (ps : Phrases) where
  -- the first instruction, with so many left
  abbrev first_of : ℕ → ℕ → Read Instruction
  first_of left bit = reader.instruction ps (left - 1) (place_at plate bit)

  -- the first of them, and the others
  pub record Following (left bit next : ℕ) : Type 0 where
    pub split : instructions_at plate ps left bit
        ≡ instruction_of (first_of left bit) ∷ instructions_at plate ps (left - 1) next
    pub others : Continues plate ps (left - 1) next

  module _ (left bit : ℕ) (t : Continues plate ps left bit) where
    -- the first of them is known to be good
    pub instruction-known : 0 < left → Known (first_of left bit)
    unfolding instructions_at
    instruction-known h =
        record { good = λ e. next-there (reader.instruction ps) plate left bit t h e }

    -- the others stand behind it
    pub following : (next : ℕ) → 0 < left → got 0 (place_at plate next) ≡ end_with 0 (first_of left bit) → Following left bit next
    unfolding instructions_at
    following next h e =
        let f = ended_some 0 0 (place_at plate next) (first_of left bit) e in
        let x = next-read (reader.instruction ps) plate left bit next t h f.1 in
        record {
          split = x.split ∙ ap (λ i. i ∷ instructions_at plate ps (left - 1) next) (ap instruction_of f.1);
          others = x.others;
        }

    -- "the run ends at n"
    pub lay_done : (rs answers : List ℤ) (p : Performed) (over : ℕ) (out : List ℕ) → p.outcome ≡ End → left ≡ 0 → p.end ≤ 18446744073709551615
        → performed rs answers p out ≡ laid p.end (run (instructions_at plate ps left bit) over (machine_state rs answers p.machine)) out
    unfolding run instructions_at
    lay_done rs answers p over out e z h =
        rw (none_left (reader.instruction ps) plate left bit t z)
        (lay-here rs answers p.machine p.outcome p.end out h
        ∙ ap (λ (k : Outcome). laid p.end (ending_by k (machine_state rs answers p.machine)) out) e)

-- ---- from the first instruction on

pub lay-program : (plate : List ℕ) (ps : Phrases) (c : Contents) (rs answers : List ℤ) (m : Machine) (at : ℕ) (out : List ℕ) (p : Laid)
    → p ≡ laid at (run (instructions_at plate ps c.instructions c.bit) 0 (machine_state rs answers m)) out
    → machine_state rs answers m ≡ start answers
    → p ≡ laid at (run (program_at plate ps c).instructions 0 (start answers)) out
unfolding program_at
lay-program plate ps c rs answers m at out p h e =
    h ∙ ap (λ (s : State). laid at (run (instructions_at plate ps c.instructions c.bit) 0 s) out) e
