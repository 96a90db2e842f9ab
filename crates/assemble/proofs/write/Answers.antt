-- `write` meets its contract: 8 at the first skip that goes past, or the array holds the plate as far as it goes, and what is lent is the
-- plate.
use mathlib.Core.Path.{refl, ◌∙◌}
use Rattle.std.proofs.lemmas.Result.{err_from_is_err_and}
use Rattle.assemble.proofs.Lent.{lent-past, lent-made}
use Rattle.assemble.proofs.write.Goals as goal

pub returns-in_err-bits : goal.returns-in_err-bits
returns-in_err-bits c =
    let p = err_from_is_err_and c.from_residual.result c.from_residual.ensures.1 in
    rw (p.1, p.2) (lent-past _ _ _ _ _ _ (rw c.new-known.ensures at c.produce.ensures) c.in_err-bits.was)

pub returns : goal.returns
returns c = c.lend.ensures ∙ lent-made _ _ _ _ _ _ (rw c.new-known.ensures at c.produce.ensures) c.in_ok-bits.was refl
