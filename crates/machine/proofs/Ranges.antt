-- Answers of 32 bits: those behind the first.
use Prim.Native.Nat.{suc}
use mathlib.Core.List.{List, ◌∷◌}
use lib.IntN.{ℤ}
use Rattle.machine.specs.Ranged.{Ranged}

pub ranged-rest : (a : ℤ) (answers : List ℤ) → Ranged (a ∷ answers) → Ranged answers
ranged-rest a answers f = record { each = λ i. f.each (suc i) }
