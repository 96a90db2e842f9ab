-- The C line written, and then one try: the statement is left, or the question comes again from where the try ends.
use Prim.Native.Nat.{ℕ, suc, ◌<◌}
use mathlib.Core.Path.{◌≡◌, sym, ap, ◌∙◌}
use mathlib.Core.List.{List, [], ◌∷◌}
use mathlib.Core.Bool.{Bool, true, false, cond, false≢true}
use lib.ListN.{length, drop}
use lib.Dec.{ltb}
use lib.IntN.{ℤ}
use borrow.Author.Tests.{ltb-true}
use Rattle.text.specs.Text.{Text}
use Rattle.output.specs.Pour.{poured}
use Rattle.transcript.specs.declared.Machine.{Machine}
use Rattle.transcript.specs.declared.Performed.{Performed}
use Rattle.transcript.specs.State.{offered, step, line_bytes}
use Rattle.transcript.specs.Perform.{Ending, is_option, choose}
use Rattle.transcript.specs.Machine.{machine_state, laid, performed}
use Rattle.transcript.specs.Tries.{again, tried}
use Rattle.transcript.proofs.Natural.{choose-behind}
use Rattle.transcript.proofs.Tries.{question, question-natural, tried-last, tried-again, again-goes}
use Rattle.machine.proofs.Lay.{lay-first}
use Rattle.machine.proofs.Follow.{lay-outcome, lay-goes}

-- another try is left only after fewer than two wrong answers
again-few : (n wrong : ℕ) (left : List ℤ) → again n wrong left ≡ true → wrong < 2
again-few n wrong [] e = absurd (false≢true e)
again-few n wrong (a ∷ rest) e = go (is_option n a) e
  where
    go : (v : Bool) → cond v false (ltb wrong 2) ≡ true → wrong < 2
    go true e = absurd (false≢true e)
    go false e = ltb-true wrong 2 e

-- the C line from `at` to y, and then a try, which leaves p, the registers us and the buffer o
module _ (rs us answers : List ℤ) (m : Machine) (r : ℕ) (t : Text) (options : List Text) (n wrong : ℕ) (p : Performed)
    (at y : ℕ) (out mid o : List ℕ) (line : (y, mid) ≡ poured at (line_bytes (offered t options)) out)
    (left : performed us answers p o ≡ laid y (tried r n wrong (machine_state rs answers m).left (step (machine_state rs answers m))) mid)
    (count : n ≡ length options) (small : length out < 9223372036854775808) (small' : length mid < 9223372036854775808) where
  -- what is done behind the C line, with it
  with-line : laid y (choose r t options wrong (machine_state rs answers m).left (step (machine_state rs answers m))) mid
      ≡ laid at (question r t options wrong (machine_state rs answers m)) out
  unfolding machine_state
  with-line =
      lay-first (offered t options) _ at y out mid line small
      ∙ ap (λ (e : Ending). laid at e out)
      (sym (choose-behind (offered t options ∷ []) r t options wrong (drop m.taken answers) (step (machine_state rs answers m))))

  -- the statement is left
  pub lay-left : again n wrong (machine_state rs answers m).left ≡ false
      → performed us answers p o ≡ laid at (question r t options wrong (machine_state rs answers m)) out
  lay-left e =
      left
      ∙ ap (λ (e : Ending). laid y e mid)
      (rw count (tried-last r t options wrong (machine_state rs answers m).left (step (machine_state rs answers m)) (rw count at e)))
      ∙ with-line

  -- the question again, after fewer than two wrong answers
  pub lay-again : again n wrong (machine_state rs answers m).left ≡ true
      → (laid p.end (question r t options (suc wrong) (machine_state us answers p.machine)) o
      ≡ laid at (question r t options wrong (machine_state rs answers m)) out)
      × (wrong < 2)
  lay-again e =
      let e' = rw count at e in
      let left' = rw count at left in
      let goes = lay-outcome us answers p o y _ mid left' ∙ again-goes r t options wrong (machine_state rs answers m).left (step (machine_state rs answers m)) e' in (
        lay-goes us answers p o y _ (question r t options (suc wrong)) mid left' goes (question-natural r t options (suc wrong)) small'
            ∙ ap (λ (e : Ending). laid y e mid) (tried-again r t options wrong (machine_state rs answers m).left (step (machine_state rs answers m)) e')
            ∙ with-line,
        again-few n wrong (machine_state rs answers m).left e,
      )
