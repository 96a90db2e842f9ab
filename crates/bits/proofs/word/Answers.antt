-- `bits::word` meets its contract: eight bytes are two times 32 bits.
use Rattle.std.proofs.Common.{◌≡◌, ◌+◌, arith}
use Rattle.bits.proofs.Words.{half-value, word_value}
use Rattle.bits.proofs.word.Goals as goal

pub returns : goal.returns
returns c =
    let bytes = c.args.bytes.now in
    let i = c.args.index in
    let first = half-value bytes i (omega arith) c.type_inv.bytes in
    let five : i + 4 + 1 ≡ i + 5 = omega arith in
    let six : i + 4 + 2 ≡ i + 6 = omega arith in
    let seven : i + 4 + 3 ≡ i + 7 = omega arith in
    let second = rw (five, six, seven) at (half-value bytes (i + 4) (omega arith) c.type_inv.bytes) in
    omega (arith, c.from_be_bytes.ensures, first, second, word_value bytes i (omega arith))
