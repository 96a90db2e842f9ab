-- `store` meets its contract: with a place for the number or without.
use mathlib.Core.Path.{sym}
use Rattle.output.proofs.Pour.{pour-one, pour-past}
use Rattle.translate.proofs.table.store.Goals as goal

pub returns-then-number-skips : goal.returns-then-number-skips
returns-then-number-skips c = sym (pour-one _ _ _)

pub returns-else-number-skips : goal.returns-else-number-skips
returns-else-number-skips c = sym (pour-past _ _ _ c.if-number-skips.false)
