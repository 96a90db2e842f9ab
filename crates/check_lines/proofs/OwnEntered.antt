-- What the numbers are behind a line: that of a phrase is entered, and another line leaves them.
use Prim.Native.Nat.{ℕ, ◌+◌, ◌-◌}
use mathlib.Core.Path.{◌≡◌, refl, ap}
use mathlib.Core.List.{List}
use lib.ListN.{take, drop, get_or, set}
use Rattle.phrases.specs.Own.{own_number}
use Rattle.lines.specs.declared.Head.{Head}
use Rattle.lines.specs.declared.Head.TheVariants as head
use Rattle.check_lines.specs.Numbers.{entered}

module _ (k a e : ℕ) (text index : List ℕ) where
  pub entered-phrase : {h : Head} → h ≡ head.Phrase
      → entered h k a e text index ≡ set index (129 + get_or index 0 0 + k) (own_number (a + 7) (take (e - (a + 7)) (drop (a + 7) text)))
  unfolding entered
  entered-phrase o = ap (λ h. entered h k a e text index) o

  pub entered-other : (h : Head) → (h ≡ head.Phrase → ⊥) → entered h k a e text index ≡ index
  unfolding entered
  entered-other head.Phrase o = absurd (o refl)
  entered-other (head.Input r) o = refl
  entered-other (head.Inputs r n) o = refl
  entered-other head.Print o = refl
  entered-other head.Printex o = refl
  entered-other (head.If t) o = refl
  entered-other head.Else o = refl
  entered-other head.Fi o = refl
  entered-other (head.Goto j) o = refl
  entered-other (head.IfSkip t j) o = refl
