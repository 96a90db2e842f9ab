-- `bits_ahead::last_bytes` meets its contract: four bytes as one number. Assumes nothing.
use Rattle.std.proofs.Common.{arith}
use Rattle.bits_ahead.proofs.Ahead.{four-value}
use Rattle.bits_ahead.proofs.last_bytes.Goals as goal

pub returns : goal.returns
returns c =
    let bytes = c.args.bytes.now in
    let value = four-value bytes c.args.index c.type_inv.bytes in
    omega (arith, c.from_be_bytes.ensures, value)
