-- `short_constant` meets its contract: the law of its arithmetic, and that the number is one of 32 bits.
use mathlib.Core.Path.{◌≡◌, refl}
use native.Mathlib.Omega.{arith}
use lib.IntN.{pos, ◌-ℤ◌}
use mir.Syntax.{w32}
use mir.Val.{to_z}
use mir.Facts.{to_z_pos}
use Prim.Native.Nat.{◌+◌, ◌%◌}
use Rattle.plate.specs.Plate.{signed}
use Rattle.plate.proofs.Constants.{signed-small}
use Rattle.plate_constants.proofs.ShortConstant.{short-arithmetic}
use Rattle.plate_constants.proofs.SignedRead.{held}
use Rattle.plate_constants.proofs.constant.short_constant.Reads as reads
use Rattle.plate_constants.proofs.constant.short_constant.Lts as lts
use Rattle.plate_constants.proofs.constant.short_constant.Goals as goal

is : (c : lts.Start reads.Pre reads.Post) → to_z w32 ((c.args.value + 32768) % 65536) -ℤ pos 32768 ≡ signed 16 c.args.value
is c = rw (to_z_pos w32 {n = (c.args.value + 32768) % 65536} (omega arith)) (short-arithmetic _ c.requires)

pub overflow_sub-result : goal.overflow_sub-result
overflow_sub-result c = rw (is c) (omega (arith, signed-small 16 refl _ c.requires))

pub returns : goal.returns
returns c = held 16 refl (omega arith) _ _ c.requires (is c)
