-- What the contracts say of lengths, so that the parts of a case can be lent.
use Rattle.std.specs.Prelude.{ℕ, ◌≤◌, ◌≡◌, List, length, take}
use Rattle.vectors.specs.declared.cases.Case.{Case}

-- a space has so many elements at its front
abbrev pub Front : {A : Type 0} → ℕ → List A → Type 0
Front n xs = (n ≤ length xs) × (n ≡ length (take n xs))

-- the parts of a case at the fronts of their spaces
pub record Fronts (r : Case) (input book out : List ℕ) : Type 0 where
  pub first : Front r.input input
  pub second : Front r.book book
  pub last : Front r.lent out
