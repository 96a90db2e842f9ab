-- The instructions of a plate from a bit of it on.
use Rattle.std.specs.Prelude.{ℕ, List}
use Rattle.phrases.specs.Phrases.{Phrases}
use Rattle.plate.specs.Plate.{instruction}
use Rattle.reader.specs.Holding.{There, instructions_at}

-- n instructions from a bit on are all there
abbrev pub Continues : List ℕ → Phrases → ℕ → ℕ → Type 0
Continues plate p n bit = There (instruction p) plate n bit (instructions_at plate p n bit)
