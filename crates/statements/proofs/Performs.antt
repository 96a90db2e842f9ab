-- A statement is its line, and then what it does behind that line.
use Prim.Native.Nat.{ℕ, ◌<◌}
use mathlib.Core.Path.{◌≡◌, refl, sym, ap, ◌∙◌}
use mathlib.Core.List.{List, [], ◌∷◌}
use lib.ListN.{length, drop}
use lib.IntN.{ℤ}
use Rattle.output.specs.Pour.{poured}
use Rattle.transcript.specs.declared.Machine.{Machine}
use Rattle.transcript.specs.Statement.{Statement, input, inputs, print, printex}
use Rattle.transcript.specs.State.{TranscriptLine, asked, offered, shown, ruled, State, step, line_bytes}
use Rattle.transcript.specs.Perform.{Ending, goes_on, verdict, answer, choose, perform}
use Rattle.transcript.specs.Machine.{machine_state, Laid, laid}
use Rattle.transcript.proofs.Natural.{behind_ending, answer-behind, choose-behind}
use Rattle.machine.proofs.Lay.{lay-first}

-- the line
abbrev pub first_line : Statement → TranscriptLine
first_line (input r t) = asked t
first_line (inputs r t options) = offered t options
first_line (print t) = shown t
first_line (printex t) = ruled t

-- what it does behind the line
abbrev pub behind_line : Statement → State → Ending
behind_line (input r t) s = answer r s.left (step s)
behind_line (inputs r t options) s = choose r t options 0 s.left (step s)
behind_line (print t) s = goes_on (step s)
behind_line (printex t) s = verdict (step s)

module _ (rs answers : List ℤ) (m : Machine) where
  line_first : (x : Statement) → behind_ending (first_line x ∷ []) (behind_line x (machine_state rs answers m)) ≡ perform x (machine_state rs answers m)
  unfolding perform machine_state
  line_first (input r t) = sym (answer-behind (asked t ∷ []) r (drop m.taken answers) (step (machine_state rs answers m)))
  line_first (inputs r t options) = sym (choose-behind (offered t options ∷ []) r t options 0 (drop m.taken answers) (step (machine_state rs answers m)))
  line_first (print t) = refl
  line_first (printex t) = refl

  -- the line written, and then what is done behind it
  pub lay-perform : (x : Statement) (p : Laid) (at y : ℕ) (out mid : List ℕ) → (y, mid) ≡ poured at (line_bytes (first_line x)) out
      → p ≡ laid y (behind_line x (machine_state rs answers m)) mid → length out < 9223372036854775808 → p ≡ laid at (perform x (machine_state rs answers m)) out
  lay-perform x p at y out mid e f h =
      f ∙ lay-first (first_line x) (behind_line x (machine_state rs answers m)) at y out mid e h ∙ ap (λ (e : Ending). laid at e out) (line_first x)
