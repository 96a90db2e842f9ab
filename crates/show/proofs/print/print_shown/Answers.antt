-- `print_shown` is safe: what is printed has room; and the space holds it.
use native.Mathlib.Omega.{arith}
use borrow.Author.Rules.{rules}
use Rattle.output.proofs.Poured.{stored}
use Rattle.show.proofs.Most.{printed-fits, printed-most}
use Rattle.show.proofs.print.print_shown.Goals as goal

pub slice_bounds-write_all-end : goal.slice_bounds-write_all-end
slice_bounds-write_all-end g c = (printed-fits _ _ _ _ c.show-length.ensures (search rules)).1

pub shared_ref_as_front-write_all : goal.shared_ref_as_front-write_all
shared_ref_as_front-write_all g c = omega (arith, printed-most _ _ _ _ c.show-length.ensures)

pub returns : goal.returns
returns g c = stored 0 _ _ _ _ c.show-length.ensures
