-- `bits_in::field` meets its contract: a quotient and a remainder by powers of two are the bits between them. Assumes nothing.
use mathlib.Core.Path.{refl}
use borrow.Author.Rules.{rules}
use Rattle.bits.proofs.Fields.{field_at}
use Rattle.bits_in.proofs.field.Goals as goal

pub returns : goal.returns
returns c =
    let a = c.args in
    rw c.from.ensures (field_at 8 a.bit a.size _ _ (search rules) refl c.two_to.ensures.0 a.byte)
