-- `has_own` meets its contract: no byte has no first bit, and a byte from 128 on begins with 1.
use Rattle.std.proofs.Common.{rules}
use Rattle.reader.proofs.OwnFirst.{first-tested}
use Rattle.reader.proofs.own.has_own.Goals as goal

pub returns : goal.returns
returns c = first-tested c.args.plate.now (c.type_inv.plate 0).fits _ c.first.ensures.value (search rules)
