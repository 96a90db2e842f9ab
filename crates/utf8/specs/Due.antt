-- What the code knows between two bytes: how many bytes are due, and the range of the next one.
use Rattle.std.specs.Prelude.{ℕ, zero, suc, List, [], ◌∷◌, Bool, false, replicate}
use Rattle.std.specs.Prelude.{Option, Some, None}
use Rattle.std.proofs.Math.Option.{Option as Behind, none, some}
use Rattle.text.specs.Utf8.{Range, ◌to◌, tail, letters_behind}
use Rattle.utf8.specs.declared.Due.{Due}

-- so many ranges: one, and tails behind it
abbrev pub ranges : ℕ → ℕ → ℕ → List Range
ranges zero least most = []
ranges (suc n) least most = (least to most) ∷ replicate n tail

-- the ranges due
abbrev pub due_of : Due → List Range
due_of d = ranges d.count d.least d.most

-- what is left to be seen of the bytes behind a step
abbrev pub on_step : Option Due → List ℕ → Bool
on_step (Some d) s = letters_behind (due_of d) s
on_step None s = false

-- the ranges due behind a first byte; none where no letter begins so
abbrev pub step_of : Option Due → Behind (List Range)
step_of (Some d) = some (due_of d)
step_of None = none
