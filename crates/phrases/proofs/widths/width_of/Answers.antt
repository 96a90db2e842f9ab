-- `width_of` meets its contract: so many bits are enough, and one less is not.
use Rattle.std.proofs.Common.{◌^◌, ◌≤◌, ◌<◌, suc, arith}
use native.Mathlib.Nat.{two-pow-succ}
use Rattle.phrases.proofs.Width.{width-least, width_is}
use Rattle.phrases.proofs.widths.width_of.Goals as goal

pub returns-then-n-le1 : goal.returns-then-n-le1
returns-then-n-le1 c = omega (arith, width-least _ 0 c.if-n-le1.true)

pub returns-else-n-le1 : goal.returns-else-n-le1
returns-else-n-le1 c =
    let w = c.ilog2.result in
    let more : 2 ^ w < c.args.n = omega (arith, c.ilog2.ensures.power_le) in
    let enough : c.args.n ≤ 2 ^ suc w = omega (arith, c.ilog2.ensures.next_power_gt, two-pow-succ w) in
    omega (arith, width_is _ w more enough)
