-- What the code's machine stands for, and what a statement leaves in the lent transcript buffer.
use Rattle.std.specs.Prelude.{ℕ, ◌+◌, List, [], length, drop, ℤ}
use Rattle.causes.specs.declared.Outcome.{Outcome}
use Rattle.causes.specs.declared.Outcome.TheVariants.{Verdict, End, Waiting, Outside}
use Rattle.output.specs.Pour.{up_to, pour}
use Rattle.transcript.specs.declared.Machine.{Machine}
use Rattle.transcript.specs.declared.Performed.{Performed}
use Rattle.transcript.specs.State.{State, transcript_bytes}
use Rattle.transcript.specs.Perform.{Ending, goes_on, verdict, waits, outside, state_of}

-- the state of registers and a machine: the answers behind those taken are left, and nothing is in its transcript yet
unfoldable pub machine_state : List ℤ → List ℤ → Machine → State
machine_state registers answers m =
    record {
      registers = registers;
      left = drop m.taken answers;
      taken = m.taken;
      steps = m.steps;
      transcript = [];
    }

-- an ending by its outcome; with End it goes on
abbrev pub ending_by : Outcome → State → Ending
ending_by Verdict s = verdict s
ending_by End s = goes_on s
ending_by (Waiting wrong) s = waits wrong s
ending_by Outside s = outside s

-- a state whose transcript has been written out
abbrev pub cleared : State → State
cleared s =
    record { registers = s.registers; left = s.left; taken = s.taken; steps = s.steps; transcript = [] }

-- an ending whose transcript has been written out
abbrev pub cleared_ending : Ending → Ending
cleared_ending (goes_on s) = goes_on (cleared s)
cleared_ending (verdict s) = verdict (cleared s)
cleared_ending (waits wrong s) = waits wrong (cleared s)
cleared_ending (outside s) = outside (cleared s)

-- an ending, where its transcript ends, and the buffer that holds it
pub record Laid : Type 0 where
  pub ending : Ending
  pub end : ℕ
  pub buffer : List ℕ

-- an ending's transcript written from a place on, as far as the buffer goes
unfoldable pub laid : ℕ → Ending → List ℕ → Laid
laid at e buffer =
    record {
      ending = cleared_ending e;
      end = up_to (at + length (transcript_bytes (state_of e).transcript));
      buffer = pour at (transcript_bytes (state_of e).transcript) buffer;
    }

-- what the code answers, with the registers and the buffer
unfoldable pub performed : List ℤ → List ℤ → Performed → List ℕ → Laid
performed registers answers p buffer =
    record { ending = ending_by p.outcome (machine_state registers answers p.machine); end = p.end; buffer = buffer }
