-- How a statement is left behind its line: after one step, with the next answer taken or not.
use Prim.Native.Nat.{ℕ, suc, ◌+◌, ◌≤◌, ◌<◌}
use native.Mathlib.Numerals.{add-one}
use mathlib.Core.Path.{◌≡◌, refl, sym, ap, ◌∙◌}
use mathlib.Core.List.{List}
use mathlib.Core.Bool.{true, false}
use lib.ListN.{length, drop, get_or, set, drop_of_length-le}
use borrow.Author.Tests.{lt-ltb, le-ltb}
use lib.Seq.{drop-cons}
use lib.IntN.{ℤ, pos}
use Rattle.causes.specs.declared.Outcome.{Outcome}
use Rattle.causes.specs.declared.Outcome.TheVariants.{End}
use Rattle.output.specs.Pour.{poured}
use Rattle.transcript.specs.declared.Machine.{Machine}
use Rattle.transcript.specs.State.{answered, State, step, line_bytes}
use Rattle.transcript.specs.Perform.{goes_on, waits, outside, answer, is_option, take_wrong}
use Rattle.transcript.specs.Machine.{machine_state, ending_by, Laid, laid, performed}
use Rattle.transcript.specs.Tries.{again, tried}
use Rattle.transcript.proofs.Bytes.{bytes_one}
use Rattle.machine.proofs.Lay.{lay-state, lay-here}

-- the next answer
abbrev next : List ℤ → Machine → ℤ
next answers m = get_or answers m.taken (pos 0)

module _ (rs answers : List ℤ) (m : Machine) where
  -- after one step
  pub lay_step : (n : Machine) (k : Outcome) (at : ℕ) (out : List ℕ) → machine_state rs answers n ≡ step (machine_state rs answers m)
      → at ≤ 18446744073709551615
      → performed rs answers (record { machine = n; outcome = k; end = at }) out ≡ laid at (ending_by k (step (machine_state rs answers m))) out
  lay_step n k at out c h = lay-here rs answers n k at out h ∙ ap (λ (s : State). laid at (ending_by k s) out) c

  -- after one step, with the next answer, which sets no register
  pub lay-takes-wrong : (at x : ℕ) (out o : List ℕ) → (x, o) ≡ poured at (line_bytes (answered (next answers m))) out
      → performed rs answers (record { machine = record { taken = m.taken + 1; steps = m.steps + 1 }; outcome = End; end = x }) o
      ≡ laid at (goes_on (take_wrong (next answers m) (drop (suc m.taken) answers) (step (machine_state rs answers m)))) out
  unfolding machine_state
  lay-takes-wrong at x out o p =
      let s = take_wrong (next answers m) (drop (suc m.taken) answers) (step (machine_state rs answers m)) in
      lay-state _ answers _ End s at x out o (simp add-one) (p ∙ ap (λ (b : List ℕ). poured at b out) (sym (bytes_one (answered (next answers m)))))

  -- the same with the register set
  pub lay-takes : (r at : ℕ) (out : List ℕ) (p : Laid)
      → p ≡ laid at (goes_on (take_wrong (next answers m) (drop (suc m.taken) answers) (step (machine_state (set rs r (next answers m)) answers m)))) out
      → m.taken < length answers → p ≡ laid at (answer r (machine_state rs answers m).left (step (machine_state rs answers m))) out
  unfolding machine_state
  lay-takes r at out p e h = rw (drop-cons answers m.taken (pos 0) h) e

module _ (rs answers : List ℤ) (m : Machine) (r : ℕ) (at : ℕ) (out : List ℕ) (p : Laid) where
  -- input with no answer left
  pub lay-unanswered : p ≡ laid at (waits 0 (step (machine_state rs answers m))) out → length answers ≤ m.taken
      → p ≡ laid at (answer r (machine_state rs answers m).left (step (machine_state rs answers m))) out
  unfolding machine_state
  lay-unanswered e h = let d = drop_of_length-le answers h in rw d (rw d at e)

  module _ (n wrong : ℕ) where
    -- inputs with no answer left
    pub lay-unchosen : p ≡ laid at (waits wrong (step (machine_state rs answers m))) out → length answers ≤ m.taken
        → (p ≡ laid at (tried r n wrong (machine_state rs answers m).left (step (machine_state rs answers m))) out)
        × (false ≡ again n wrong (machine_state rs answers m).left)
    unfolding machine_state tried
    lay-unchosen e h = let d = drop_of_length-le answers h in rw d (rw d at e, refl)

    module _ (h : m.taken < length answers) where
      -- an option's place is taken as a number is
      pub lay-chosen : p ≡ laid at (answer r (machine_state rs answers m).left (step (machine_state rs answers m))) out → is_option n (next answers m) ≡ true
          → (p ≡ laid at (tried r n wrong (machine_state rs answers m).left (step (machine_state rs answers m))) out)
          × (false ≡ again n wrong (machine_state rs answers m).left)
      unfolding machine_state tried
      lay-chosen e v = let d = drop-cons answers m.taken (pos 0) h in rw (d, v) (rw d at e, refl)

      -- a wrong answer, with another try left
      pub lay-wrong : p ≡ laid at (goes_on (take_wrong (next answers m) (drop (suc m.taken) answers) (step (machine_state rs answers m)))) out
          → is_option n (next answers m) ≡ false → wrong < 2
          → (p ≡ laid at (tried r n wrong (machine_state rs answers m).left (step (machine_state rs answers m))) out)
          × (true ≡ again n wrong (machine_state rs answers m).left)
      unfolding machine_state tried
      lay-wrong e v w = rw (drop-cons answers m.taken (pos 0) h, v, lt-ltb wrong 2 w) (e, refl)

      -- the third one
      pub lay-outside : p ≡ laid at (outside (step (machine_state rs answers m))) out → is_option n (next answers m) ≡ false → 2 ≤ wrong
          → (p ≡ laid at (tried r n wrong (machine_state rs answers m).left (step (machine_state rs answers m))) out)
          × (false ≡ again n wrong (machine_state rs answers m).left)
      unfolding machine_state tried
      lay-outside e v w = let d = drop-cons answers m.taken (pos 0) h in rw (d, v, le-ltb wrong 2 w) (rw d at e, refl)
