-- Documents 01, "Walk", and 02, c): what one statement does. "The rest is as in the walk": the run uses the same.
use Rattle.std.specs.Prelude.{ℕ, suc, List, [], ◌∷◌, ◌++◌, Bool, false, cond, length, get_or, set, ltb, ℤ, pos, negsuc}
use Rattle.causes.specs.Answers.{ended, Output}
use Rattle.causes.specs.Causes.{outcome_number, wrong_answers}
use Rattle.causes.specs.Limits.{more_tries}
use Rattle.causes.specs.declared.Outcome.{Outcome}
use Rattle.causes.specs.declared.Outcome.TheVariants.{Verdict, End, Waiting, Outside}
use Rattle.text.specs.Text.{Text}
use Rattle.transcript.specs.Statement.{Statement, input, inputs, print, printex, compares}
use Rattle.transcript.specs.declared.Test.{Test}
use Rattle.transcript.specs.State.{asked, offered, answered, shown, ruled, State, step, write_line, transcript_bytes}

-- how a statement, a block or a run is left: at its end, or by a verdict, a wait after so many wrong answers to the present question, or
-- the third wrong answer to one
pub data Ending : Type 0 where
  goes_on verdict outside : State → Ending
  waits : ℕ → State → Ending

-- what follows, where the walk or run goes on
abbrev pub and_then : Ending → (State → Ending) → Ending
and_then (goes_on s) f = f s
and_then (verdict s) f = verdict s
and_then (waits wrong s) f = waits wrong s
and_then (outside s) f = outside s

-- "An answer taken becomes R's value", and is an A line
abbrev pub take_answer : ℕ → ℤ → List ℤ → State → State
take_answer r a rest s =
    record {
      registers = set s.registers r a;
      left = rest;
      taken = suc s.taken;
      steps = s.steps;
      transcript = s.transcript ++ (answered a ∷ []);
    }

-- input, its question written: "Answers are taken from the front of the list"; "2 waiting, no answer left"
abbrev pub answer : ℕ → List ℤ → State → Ending
answer r [] s = waits 0 s
answer r (a ∷ rest) s = goes_on (take_answer r a rest s)

-- "the answer is an option's place, from 0"
abbrev pub is_option : ℕ → ℤ → Bool
is_option n (pos a) = ltb a n
is_option n (negsuc a) = false

-- "An answer outside the options is now taken, an A line is written"; "a wrong answer sets no register"
abbrev pub take_wrong : ℤ → List ℤ → State → State
take_wrong a rest s =
    record {
      registers = s.registers;
      left = rest;
      taken = suc s.taken;
      steps = s.steps;
      transcript = s.transcript ++ (answered a ∷ []);
    }

-- "Each C line written is a step"
abbrev pub offer : Text → List Text → State → State
offer t options s = write_line (offered t options) (step s)

-- inputs, its C line written, after so many wrong answers: "the C line comes again; the third wrong one in the same question is not taken
-- and ends with outcome 3"
unfoldable pub choose : ℕ → Text → List Text → ℕ → List ℤ → State → Ending
choose r t options wrong [] s = waits wrong s
choose r t options wrong (a ∷ rest) s =
    cond
    (is_option (length options) a)
    (goes_on (take_answer r a rest s))
    (cond (ltb wrong more_tries) (choose r t options (suc wrong) rest (offer t options (take_wrong a rest s))) (outside s))

-- "Each input, inputs, print, printex .. met is one step"; "The Q or C line is written before the answer is looked for"
unfoldable pub perform : Statement → State → Ending
perform (input r t) s = answer r s.left (write_line (asked t) (step s))
perform (inputs r t options) s = choose r t options 0 s.left (offer t options s)
perform (print t) s = goes_on (write_line (shown t) (step s))
perform (printex t) s = verdict (write_line (ruled t) (step s))

-- whether the test of an if holds
unfoldable pub holds : Test → State → Bool
holds t s = compares t.op (get_or s.registers t.register (pos 0)) t.constant

-- ---- what is reported

-- the state at the end
abbrev pub state_of : Ending → State
state_of (goes_on s) = s
state_of (verdict s) = s
state_of (waits wrong s) = s
state_of (outside s) = s

-- "Outcomes"
abbrev pub outcome_of : Ending → Outcome
outcome_of (verdict s) = Verdict
outcome_of (goes_on s) = End
outcome_of (waits wrong s) = Waiting wrong
outcome_of (outside s) = Outside

-- the transcript, with its length, the outcome, the answers taken, the steps and the wrong answers so far
unfoldable pub report : Ending → Output
report e =
    record {
      bytes = transcript_bytes (state_of e).transcript;
      answer =
          ended
          (length (transcript_bytes (state_of e).transcript))
          (outcome_number (outcome_of e))
          (state_of e).taken
          (state_of e).steps
          (wrong_answers (outcome_of e));
    }
