-- `long_if` meets its contract: the lower half of the constant and the skip are parts of the bits that are read ahead.
use Prim.Native.Nat.{◌+◌, ◌*◌, ◌^◌, ◌<◌}
use mathlib.Core.Path.{refl, ap, ◌∙◌}
use native.Mathlib.Omega.{arith}
use Rattle.bits.specs.Ahead.{part_ahead}
use Rattle.plate.specs.Plate.{signed}
use Rattle.plate_constants.proofs.SignedRead.{held}
use Rattle.fields.proofs.Ahead.{part-below}
use Rattle.instructions.proofs.heads.long_if.Goals as goal

pub long_constant-constant-requires : goal.long_constant-constant-requires
long_constant-constant-requires c = omega (arith, part-below 0 16 _ c.part_ahead.ensures.0, c.requires.2)

pub returns : goal.returns
returns c =
    let is = c.part_ahead.ensures.0 ∙ ap (part_ahead 0 16) c.read_ahead-lower.ensures in
    let below : c.args.high * 65536 + c.part_ahead.result < 2 ^ 32 = omega (arith, part-below 0 16 _ c.part_ahead.ensures.0, c.requires.2) in
    record { register_value = (refl, refl, held 32 refl (omega arith) _ _ below c.long_constant-constant.ensures ∙ ap (λ x. signed 32 (c.args.high * 65536 + x)) is); skip_value = (c.part_ahead-2.ensures.0 ∙ ap (part_ahead 16 9) c.read_ahead-lower.ensures, refl) }
