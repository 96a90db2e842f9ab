-- `is_filled` meets its contract: a whole byte or more, or fewer bits that are read as one number.
use Rattle.std.proofs.Common.{◌∙◌, le-ltb, rules, arith}
use Rattle.reader.proofs.FillingBits.{filling-byte, filling-tested}
use Rattle.reader.proofs.filling.is_filled.Goals as goal

pub returns-then-left-lt8 : goal.returns-then-left-lt8
returns-then-left-lt8 c =
    filling-tested _ _ _ c.saturating_sub-left.ensures (omega (arith, c.if-left-lt8.true)) _ c.read_number.ensures (search rules)

pub returns-else-left-lt8 : goal.returns-else-left-lt8
returns-else-left-lt8 c = le-ltb _ _ c.if-left-lt8.false ∙ filling-byte _ _ (omega (arith, c.saturating_sub-left.ensures))
