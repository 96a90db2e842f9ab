-- `bits_out::store` meets its contract. The loop's invariant: writing what is left makes the whole.
-- The measure is what is left. Assumes nothing.
use mathlib.Core.Path.{refl}
use Prim.Native.Nat.{◌+◌, ◌*◌, ◌/◌, ◌%◌}
use native.Mathlib.Omega.{arith}
use borrow.Author.Rules.{rules}
use Rattle.bits.proofs.Turns.{write-start, write-turn, write-end}
use Rattle.bits_out.proofs.store.Goals as goal

pub loop-left-init : goal.loop-left-init
loop-left-init c = (search rules, search rules, search rules, search rules, write-start _ _ _ _ _ (omega arith))

pub loop-left-preserved : goal.loop-left-preserved
loop-left-preserved c =
    let place = (c.loop-left.index + (c.loop-left.bit + c.min-size.result) / 8) * 8 + (c.loop-left.bit + c.min-size.result) % 8 in
    let next =
    write-turn c.loop-left.index c.loop-left.bit c.loop-left.left c.min-size.result _ _ place c.loop-left.invariant.4 refl c.with_field.ensures
    (omega arith) (omega arith) (omega arith) (omega arith)
    in
    (search rules, search rules, search rules, search rules, next)

pub returns : goal.returns
returns c = write-end c.loop-left.invariant.4 (omega arith)
