-- `find_own` meets its contract: the text is none of the own phrases in front of k.
use Prim.Native.Nat.{ℕ, ◌<◌}
use mathlib.Core.Path.{◌≡◌}
use mathlib.Core.Bool.{false}
use Rattle.text.specs.Parts.{same}
use Rattle.phrases.specs.Own.{own_text}
use Rattle.phrase_lookup.proofs.own.find_own.Given as goal

abbrev pub invariant-loop-k : goal.invariant-loop-k
invariant-loop-k l = (j : ℕ) → j < l.k → same l.text (own_text l.own j) ≡ false
