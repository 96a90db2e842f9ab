-- `bits_in::read_eight` meets its contract: 56 of the bits of eight bytes. Assumes nothing.
use Prim.Native.Nat.{◌-◌, ◌%◌, ◌^◌}
use mathlib.Core.Path.{◌≡◌, refl, sym, ap, ◌∙◌}
use native.Mathlib.Omega.{arith}
use borrow.Author.Rules.{rules}
use Rattle.std.specs.Prelude.{Some}
use Rattle.bits.proofs.Reading.{wide-in, wide-none}
use Rattle.bits.proofs.Words.{word-field}
use Rattle.bits_in.proofs.read_eight.Goals as goal

pub returns-then-index-bytes : goal.returns-then-index-bytes
returns-then-index-bytes c =
    let a = c.args in
    let unit : 8 - a.at % 8 ≡ 64 - a.at % 8 - 56 = omega arith in
    let field = word-field 64 a.bytes.now a.at 56 _ _ _ (omega arith) (omega arith) (ap (λ k. 2 ^ k) unit) refl c.word.ensures in
    ap Some field ∙ sym (wide-in a.bytes.now a.at (search rules))

pub returns-else-index-bytes : goal.returns-else-index-bytes
returns-else-index-bytes c = sym (wide-none _ _ (search rules))
