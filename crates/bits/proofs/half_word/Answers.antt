-- `bits::half_word` meets its contract: four bytes are 32 bits.
use Rattle.std.proofs.Common.{arith, rules}
use Rattle.bits.proofs.Words.{half-value}
use Rattle.bits.proofs.half_word.Goals as goal

pub returns : goal.returns
returns c = let h = half-value c.args.bytes.now c.args.index (search rules) c.type_inv.bytes in omega (arith, h, c.from_be_bytes.ensures)
