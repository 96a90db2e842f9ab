-- `well_formed` meets its contract: ASCII is well-formed.
use mathlib.Core.Path.{sym, ◌∙◌}
use Rattle.text.proofs.Letters.{well-ascii}
use Rattle.utf8.proofs.well_formed.Goals as goal

pub returns-then-is_ascii : goal.returns-then-is_ascii
returns-then-is_ascii c = c.if-is_ascii.true ∙ sym (well-ascii _ (sym c.is_ascii.ensures ∙ c.if-is_ascii.true))
