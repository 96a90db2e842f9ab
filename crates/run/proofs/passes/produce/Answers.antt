-- `produce` meets its contract: it is the run from the start, over all instructions.
use mathlib.Core.Path.{refl}
use native.Mathlib.Omega.{arith}
use Rattle.machine.proofs.Passes.{fresh-steps}
use Rattle.run.proofs.Going.{lay-program}
use Rattle.run.proofs.passes.produce.Goals as goal

pub run_from-requires : goal.run_from-requires
run_from-requires c = let z = fresh-steps _ c.fresh.ensures in (c.requires.short, c.requires.whole, refl, omega (arith, c.requires.few))

pub returns : goal.returns
returns c = (_, lay-program _ _ _ _ _ _ _ _ _ c.run_from.ensures (c.fresh.ensures _))
