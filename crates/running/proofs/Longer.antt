-- More answers behind those that are left: an ending that is no wait stays, and a wait's transcript only grows.
use Prim.Native.Nat.{ℕ, suc}
use mathlib.Core.Path.{◌≡◌, refl, sym, ap, ◌∙◌}
use mathlib.Core.List.{List, [], ◌∷◌, ◌++◌, append-nil, append_assoc}
use mathlib.Core.Bool.{Bool, true, false, cond}
use lib.ListN.{length}
use lib.Dec.{ltb}
use lib.IntN.{ℤ}
use Rattle.text.specs.Text.{Text}
use Rattle.transcript.specs.declared.Test.{Test}
use Rattle.transcript.specs.Statement.{Statement, input, inputs, print, printex}
use Rattle.transcript.specs.State.{TranscriptLine, answered, asked, State, step, write_line}
use Rattle.transcript.specs.Perform.{
  Ending,
  goes_on,
  verdict,
  waits,
  outside,
  and_then,
  take_answer,
  answer,
  is_option,
  take_wrong,
  offer,
  choose,
  perform,
  holds,
  state_of,
}
use Rattle.transcript.specs.Machine.{cleared}
use Rattle.transcript.proofs.Natural.{behind, Natural, choose-behind, lines-behind}

-- lines that others begin with
abbrev pub Begins : List TranscriptLine → List TranscriptLine → Type 0
Begins t u = (rest : List TranscriptLine) × (u ≡ t ++ rest)

pub natural-begins : (f : State → Ending) → Natural f → (s : State) → Begins s.transcript (state_of (f s)).transcript
natural-begins f n s =
    let e : f (behind s.transcript (cleared s)) ≡ f s = ap f (rw append-nil) in
    ((state_of (f (cleared s))).transcript, ap (λ (e : Ending). (state_of e).transcript) (sym e ∙ n s.transcript (cleared s)) ∙ lines-behind s.transcript (f (cleared s)))

module _ (more : List ℤ) where
  -- a state with more answers
  abbrev pub given : State → State
  given s =
      record {
        registers = s.registers;
        left = s.left ++ more;
        taken = s.taken;
        steps = s.steps;
        transcript = s.transcript;
      }

  -- an ending, and the ending with more answers
  abbrev pub Longer : Ending → Ending → Type 0
  Longer (goes_on s) f = f ≡ goes_on (given s)
  Longer (verdict s) f = f ≡ verdict (given s)
  Longer (outside s) f = f ≡ outside (given s)
  Longer (waits wrong s) f = Begins s.transcript (state_of f).transcript

-- what follows only adds
begins-then : (t : List TranscriptLine) (m : Ending) (f : State → Ending) → Natural f → Begins t (state_of m).transcript
    → Begins t (state_of (and_then m f)).transcript
begins-then t (goes_on s) f n h =
    let k = natural-begins f n s in
    (h.0 ++ k.0, k.1 ∙ ap (λ (u : List TranscriptLine). u ++ k.0) h.1 ∙ append_assoc t h.0 k.0)
begins-then t (verdict s) f n h = h
begins-then t (waits wrong s) f n h = h
begins-then t (outside s) f n h = h

module _ (more : List ℤ) where
  pub then-longer : (m n : Ending) (f : State → Ending) → Natural f → Longer more m n → ((s : State) → Longer more (f s) (f (given more s)))
      → Longer more (and_then m f) (and_then n f)
  then-longer (goes_on s) n f b h k = rw h (k s)
  then-longer (verdict s) n f b h k = rw h refl
  then-longer (outside s) n f b h k = rw h refl
  then-longer (waits wrong s) n f b h k = begins-then s.transcript n f b h

  answer-begins : (r : ℕ) (left : List ℤ) (s : State) → Begins s.transcript (state_of (answer r left s)).transcript
  answer-begins r [] s = ([], sym (append-nil s.transcript))
  answer-begins r (a ∷ rest) s = (answered a ∷ [], refl)

  answer-longer : (r : ℕ) (left : List ℤ) (s : State) → Longer more (answer r left s) (answer r (left ++ more) (given more s))
  answer-longer r [] s = answer-begins r more (given more s)
  answer-longer r (a ∷ rest) s = refl

  choose-longer : (r : ℕ) (t : Text) (options : List Text) (wrong : ℕ) (left : List ℤ) (s : State)
      → Longer more (choose r t options wrong left s) (choose r t options wrong (left ++ more) (given more s))
  unfolding choose
  choose-longer r t options wrong [] s =
      natural-begins (choose r t options wrong more) (λ u s. choose-behind u r t options wrong more s) (given more s)
  choose-longer r t options wrong (a ∷ rest) s =
      go (is_option (length options) a) (ltb wrong 2) (choose-longer r t options (suc wrong) rest (offer t options (take_wrong a rest s)))
    where
      go : (v w : Bool)
          → Longer more (choose r t options (suc wrong) rest (offer t options (take_wrong a rest s)))
          (choose r t options (suc wrong) (rest ++ more) (offer t options (take_wrong a (rest ++ more) (given more s))))
          → Longer more
          (cond v (goes_on (take_answer r a rest s)) (cond w (choose r t options (suc wrong) rest (offer t options (take_wrong a rest s))) (outside s)))
          (cond v (goes_on (take_answer r a (rest ++ more) (given more s)))
          (cond w (choose r t options (suc wrong) (rest ++ more) (offer t options (take_wrong a (rest ++ more) (given more s)))) (outside (given more s))))
      go true w h = refl
      go false true h = h
      go false false h = refl

  pub perform-longer : (x : Statement) (s : State) → Longer more (perform x s) (perform x (given more s))
  unfolding perform
  perform-longer (input r t) s = answer-longer r s.left (write_line (asked t) (step s))
  perform-longer (inputs r t options) s = choose-longer r t options 0 s.left (offer t options s)
  perform-longer (print t) s = refl
  perform-longer (printex t) s = refl

  -- the test of an if
  pub holds-given : (test : Test) (s : State) → holds test (given more s) ≡ holds test s
  unfolding holds
  holds-given test s = refl
