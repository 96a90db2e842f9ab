-- `here` meets its contract: nothing is written.
use borrow.Author.Rules.{rules}
use native.Mathlib.Omega.{arith}
use Rattle.walk_blocks.proofs.Leaving.{leaves-here}
use Rattle.walk_blocks.proofs.leave.here.Goals as goal

pub returns : goal.returns
returns c = record { by_index = (λ g rs answers out. leaves-here g answers rs _ _ _ out (omega arith)); place_value = search rules }
