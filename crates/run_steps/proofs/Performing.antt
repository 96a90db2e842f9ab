-- How a statement's instruction is left: its line is written, and then the statement is left.
use Prim.Native.Nat.{ℕ}
use mathlib.Core.Path.{◌≡◌, refl, sym, ap, ◌∙◌}
use mathlib.Core.List.{List}
use lib.ListN.{length}
use Rattle.text.specs.Text.{Text}
use Rattle.output.specs.Pour.{poured}
use Rattle.transcript.specs.Statement.{Statement, inputs}
use Rattle.transcript.specs.State.{offered, State, line_bytes}
use Rattle.transcript.specs.Perform.{perform}
use Rattle.transcript.specs.Machine.{Laid, laid}
use Rattle.plate.specs.Program.{Instruction, statement}
use Rattle.run_steps.specs.Meets.{left_by, over_by}
use Rattle.run_steps.specs.Lines.{choices_of, Offers}

-- an instruction that is a statement
module _ {i : Instruction} {x : Statement} (e : i ≡ statement x) where
  pub lay-statement : (s : State) (at : ℕ) (out : List ℕ) (p : Laid) → p ≡ laid at (perform x s) out → p ≡ laid at (left_by 0 i s) out
  unfolding left_by
  lay-statement s at out p f = f ∙ ap (λ i. laid at (left_by 0 i s) out) (sym e)

  pub over-statement : (s : State) → 0 ≡ over_by 0 i s
  unfolding over_by
  over-statement s = ap (λ i. over_by 0 i s) (sym e)

-- an instruction that is inputs: its C line is written, and its options are counted
module _ {i : Instruction} {r : ℕ} {t : Text} {options : List Text} (e : i ≡ statement (inputs r t options)) where
  pub choices-line : (at : ℕ) (out : List ℕ) (z : ℕ × List ℕ) → z ≡ poured at (line_bytes (offered t options)) out → z ≡ poured at (choices_of i) out
  choices-line at out z f = rw e f

  pub offers : (n : ℕ) → n ≡ length options → Offers r n i
  offers n f = rw e (refl, f)
