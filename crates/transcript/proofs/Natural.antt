-- A statement only adds to the transcript: behind other lines it does the same.
use Prim.Native.Nat.{ℕ, suc}
use mathlib.Core.Path.{◌≡◌, refl, ap, ◌∙◌}
use mathlib.Core.List.{List, [], ◌∷◌, ◌++◌, append_assoc}
use mathlib.Core.Bool.{Bool, true, false, cond}
use lib.ListN.{length}
use lib.Dec.{ltb}
use lib.IntN.{ℤ}
use Rattle.text.specs.Text.{Text}
use Rattle.transcript.specs.declared.Test.{Test}
use Rattle.transcript.specs.Statement.{Statement, input, inputs, print, printex}
use Rattle.transcript.specs.State.{TranscriptLine, asked, offered, shown, ruled, State, step, write_line}
use Rattle.transcript.specs.Perform.{
  Ending,
  goes_on,
  verdict,
  waits,
  outside,
  and_then,
  take_answer,
  answer,
  is_option,
  take_wrong,
  offer,
  choose,
  perform,
  holds,
  state_of,
}

-- a state whose transcript has lines in front
abbrev pub behind : List TranscriptLine → State → State
behind t s =
    record {
      registers = s.registers;
      left = s.left;
      taken = s.taken;
      steps = s.steps;
      transcript = t ++ s.transcript;
    }

abbrev pub behind_ending : List TranscriptLine → Ending → Ending
behind_ending t (goes_on s) = goes_on (behind t s)
behind_ending t (verdict s) = verdict (behind t s)
behind_ending t (waits wrong s) = waits wrong (behind t s)
behind_ending t (outside s) = outside (behind t s)

-- what f does adds to the transcript, and does not depend on it
abbrev pub Natural : (State → Ending) → Type 0
Natural f = (t : List TranscriptLine) (s : State) → f (behind t s) ≡ behind_ending t (f s)

behind-then : (t : List TranscriptLine) (e : Ending) (f : State → Ending) → Natural f → and_then (behind_ending t e) f ≡ behind_ending t (and_then e f)
behind-then t (goes_on s) f n = n t s
behind-then t (verdict s) f n = refl
behind-then t (waits wrong s) f n = refl
behind-then t (outside s) f n = refl

-- what follows
pub then-natural : (f g : State → Ending) → Natural f → Natural g → Natural (λ s. and_then (f s) g)
then-natural f g n k t s = ap (λ (e : Ending). and_then e g) (n t s) ∙ behind-then t (f s) g k

pub write-behind : (t : List TranscriptLine) (l : TranscriptLine) (s : State) → write_line l (behind t s) ≡ behind t (write_line l s)
write-behind t l s = rw append_assoc

take_behind : (t : List TranscriptLine) (r : ℕ) (a : ℤ) (rest : List ℤ) (s : State)
    → take_answer r a rest (behind t s) ≡ behind t (take_answer r a rest s)
take_behind t r a rest s = rw append_assoc

-- an answer taken, or not
pub answer-behind : (t : List TranscriptLine) (r : ℕ) (left : List ℤ) (s : State) → answer r left (behind t s) ≡ behind_ending t (answer r left s)
answer-behind t r [] s = refl
answer-behind t r (a ∷ rest) s = ap goes_on (take_behind t r a rest s)

-- a wrong answer, and the C line again
again_behind : (u : List TranscriptLine) (t : Text) (options : List Text) (a : ℤ) (rest : List ℤ) (s : State)
    → offer t options (take_wrong a rest (behind u s)) ≡ behind u (offer t options (take_wrong a rest s))
again_behind u t options a rest s = simp append_assoc

pub choose-behind : (u : List TranscriptLine) (r : ℕ) (t : Text) (options : List Text) (wrong : ℕ) (left : List ℤ) (s : State)
    → choose r t options wrong left (behind u s) ≡ behind_ending u (choose r t options wrong left s)
unfolding choose
choose-behind u r t options wrong [] s = refl
choose-behind u r t options wrong (a ∷ rest) s =
    go (is_option (length options) a) (ltb wrong 2) (choose-behind u r t options (suc wrong) rest (offer t options (take_wrong a rest s)))
  where
    go : (v w : Bool)
        → choose r t options (suc wrong) rest (behind u (offer t options (take_wrong a rest s)))
        ≡ behind_ending u (choose r t options (suc wrong) rest (offer t options (take_wrong a rest s)))
        → cond v (goes_on (take_answer r a rest (behind u s)))
        (cond w (choose r t options (suc wrong) rest (offer t options (take_wrong a rest (behind u s)))) (outside (behind u s)))
        ≡ behind_ending u
        (cond v (goes_on (take_answer r a rest s)) (cond w (choose r t options (suc wrong) rest (offer t options (take_wrong a rest s))) (outside s)))
    go true w h = ap goes_on (take_behind u r a rest s)
    go false true h = ap (choose r t options (suc wrong) rest) (again_behind u t options a rest s) ∙ h
    go false false h = refl

-- a statement
pub perform-natural : (x : Statement) → Natural (perform x)
unfolding perform
perform-natural (input r t) u s =
    ap (answer r s.left) (write-behind u (asked t) (step s)) ∙ answer-behind u r s.left (write_line (asked t) (step s))
perform-natural (inputs r t options) u s =
    ap (choose r t options 0 s.left) (write-behind u (offered t options) (step s)) ∙ choose-behind u r t options 0 s.left (offer t options s)
perform-natural (print t) u s = ap goes_on (write-behind u (shown t) (step s))
perform-natural (printex t) u s = ap verdict (write-behind u (ruled t) (step s))

-- the test of an if
pub holds-behind : (test : Test) (t : List TranscriptLine) (s : State) → holds test (behind t s) ≡ holds test s
unfolding holds
holds-behind test t s = refl

-- ---- so its lines stay in front

pub lines-behind : (t : List TranscriptLine) (e : Ending) → (state_of (behind_ending t e)).transcript ≡ t ++ (state_of e).transcript
lines-behind t (goes_on s) = refl
lines-behind t (verdict s) = refl
lines-behind t (waits wrong s) = refl
lines-behind t (outside s) = refl
