-- How many bytes a statement adds to the transcript: those of its line, and those of the answer that it takes.
use Prim.Native.Nat.{ℕ, zero, suc, ◌+◌, ◌-◌, ◌*◌, ◌≤◌}
use native.Mathlib.Omega.{arith}
use mathlib.Core.Path.{◌≡◌, refl, ap, ◌∙◌}
use mathlib.Core.List.{List, [], ◌∷◌, ◌++◌}
use mathlib.Core.Bool.{Bool, true, false, cond}
use lib.ListN.{length, length-append}
use lib.Dec.{ltb}
use lib.IntN.{ℤ}
use borrow.Author.Tests.{ltb-true}
use Rattle.text.specs.Text.{Text}
use Rattle.text.specs.Parts.{join}
use Rattle.decimals.proofs.Constants.{decimal-short}
use Rattle.transcript.specs.Statement.{Statement, input, inputs, print, printex}
use Rattle.transcript.specs.State.{TranscriptLine, asked, offered, answered, shown, ruled, State, step, write_line, line_bytes, transcript_bytes}
use Rattle.transcript.specs.Perform.{Ending, goes_on, outside, take_answer, is_option, take_wrong, offer, choose, perform, state_of}
use Rattle.transcript.specs.Perform as perform
use Rattle.machine.specs.Ranged.{Ranged}
use Rattle.machine.proofs.Ranges.{ranged-rest}
use Rattle.transcript.proofs.Bytes.{bytes-append, bytes_one}
use Rattle.statements.proofs.Performs.{first_line}

-- what the answers still write
abbrev pub answers_room : List ℤ → ℕ
answers_room [] = 0
answers_room (a ∷ rest) = length (line_bytes (answered a)) + answers_room rest

-- what is written, and what the answers left still write
abbrev pub state_room : State → ℕ
state_room s = length (transcript_bytes s.transcript) + answers_room s.left

pub line-more : (t : List TranscriptLine) (l : TranscriptLine)
    → length (transcript_bytes (t ++ (l ∷ []))) ≡ length (transcript_bytes t) + length (line_bytes l)
line-more t l = ap length (bytes-append t (l ∷ [])) ∙ simp (length-append, bytes_one)

answer-room : (r : ℕ) (left : List ℤ) (s : State) → s.left ≡ left → state_room (state_of (perform.answer r left s)) ≤ state_room s
answer-room r [] s e = omega arith
answer-room r (a ∷ rest) s e = rw e (omega (arith, line-more s.transcript (answered a)))

-- some answers are not none
some-none : {a : ℤ} {rest : List ℤ} → (a ∷ rest) ≡ [] → ⊥
some-none e = let z : ◌≡◌ {A = ℕ} 0 1 = omega (arith, ap length e) in omega arith

-- a try less
pub one_less : (wrong l : ℕ) → ltb wrong 2 ≡ true → (2 - wrong) * l ≡ l + (2 - suc wrong) * l
one_less zero l e = omega arith
one_less (suc zero) l e = omega arith
one_less (suc (suc wrong)) l e = absurd (omega (arith, ltb-true (suc (suc wrong)) 2 e))

-- and the C line again, for each wrong answer that is taken
choose-room : (r : ℕ) (t : Text) (options : List Text) (wrong : ℕ) (left : List ℤ) (s : State) → s.left ≡ left
    → state_room (state_of (choose r t options wrong left s)) ≤ state_room s + (2 - wrong) * length (line_bytes (offered t options))
unfolding choose
choose-room r t options wrong [] s e = omega arith
choose-room r t options wrong (a ∷ rest) s e =
    go (is_option (length options) a) (ltb wrong 2) refl (choose-room r t options (suc wrong) rest (offer t options (take_wrong a rest s)) refl)
  where
    go : (v w : Bool) → ltb wrong 2 ≡ w
        → state_room (state_of (choose r t options (suc wrong) rest (offer t options (take_wrong a rest s))))
        ≤ state_room (offer t options (take_wrong a rest s)) + (2 - suc wrong) * length (line_bytes (offered t options))
        → state_room
        (state_of (cond v (goes_on (take_answer r a rest s)) (cond w (choose r t options (suc wrong) rest (offer t options (take_wrong a rest s))) (outside s))))
        ≤ state_room s + (2 - wrong) * length (line_bytes (offered t options))
    go true w f h = rw e (omega (arith, line-more s.transcript (answered a)))
    go false true f h =
        rw e
        (omega
        (arith, one_less wrong (length (line_bytes (offered t options))) f, line-more s.transcript (answered a), line-more (take_wrong a rest s).transcript (offered t options)))
    go false false f h = omega arith

-- at most three times its line, and its answers
pub perform-room : (x : Statement) (s : State) → state_room (state_of (perform x s)) ≤ state_room s + 3 * length (line_bytes (first_line x))
unfolding perform
perform-room (input r t) s = omega (arith, answer-room r s.left (write_line (asked t) (step s)) refl, line-more s.transcript (asked t))
perform-room (inputs r t os) s = omega (arith, choose-room r t os 0 s.left (offer t os s) refl, line-more s.transcript (offered t os))
perform-room (print t) s = omega (arith, line-more s.transcript (shown t))
perform-room (printex t) s = omega (arith, line-more s.transcript (ruled t))

-- with no answer left its line comes once, and none is left behind it
module _ (s : State) (none_left : s.left ≡ []) where
  abbrev Once : Statement → Ending → Type 0
  Once x e =
      (length (transcript_bytes (state_of e).transcript) ≤ length (transcript_bytes s.transcript) + length (line_bytes (first_line x)))
      × ((state_of e).left ≡ [])

  asked-once : (r : ℕ) (t : Text) (left : List ℤ) → left ≡ [] → Once (input r t) (perform.answer r left (write_line (asked t) (step s)))
  asked-once r t [] e = (omega (arith, line-more s.transcript (asked t)), none_left)
  asked-once r t (a ∷ rest) e = absurd (some-none e)

  offered-once : (r : ℕ) (t : Text) (os : List Text) (left : List ℤ) → left ≡ [] → Once (inputs r t os) (choose r t os 0 left (offer t os s))
  unfolding choose
  offered-once r t os [] e = (omega (arith, line-more s.transcript (offered t os)), none_left)
  offered-once r t os (a ∷ rest) e = absurd (some-none e)

  pub perform-once : (x : Statement) → Once x (perform x s)
  unfolding perform
  perform-once (input r t) = asked-once r t s.left none_left
  perform-once (inputs r t os) = offered-once r t os s.left none_left
  perform-once (print t) = (omega (arith, line-more s.transcript (shown t)), none_left)
  perform-once (printex t) = (omega (arith, line-more s.transcript (ruled t)), none_left)

-- an A line has at most 14 bytes
pub answers-room : (answers : List ℤ) → Ranged answers → answers_room answers ≤ 14 * length answers
unfolding line_bytes join
answers-room [] h = omega arith
answers-room (a ∷ rest) h =
    let one : length (line_bytes (answered a)) ≤ 14 = simp length-append (omega (arith, decimal-short a (h.each 0))) in
    omega (arith, answers-room rest (ranged-rest a rest h))
