-- `is_short` meets its contract.
use mathlib.Core.Path.{refl}
use mir.Facts.{to_z-of_z}
use Rattle.plate.proofs.is_short.Goals as goal

pub returns-then-constant-geminus32768 : goal.returns-then-constant-geminus32768
returns-then-constant-geminus32768 c = let k = to_z-of_z c.ranges.constant in simp (k, rw k at c.if-constant-geminus32768.true) refl

pub returns : goal.returns
returns c = let k = to_z-of_z c.ranges.constant in simp (rw k at c.if-constant-geminus32768.false)
