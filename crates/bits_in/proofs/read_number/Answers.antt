-- `bits_in::read_number` meets its contract: the bits of a word, or byte by byte. Assumes nothing.
use mathlib.Core.Path.{refl, sym, ap, ◌∙◌}
use native.Mathlib.Omega.{arith}
use lib.ListN.{drop, length-drop}
use borrow.Author.Rules.{rules}
use Rattle.std.specs.Prelude.{Some}
use Rattle.bits.specs.Bits.{bytes_bits}
use Rattle.bits.proofs.Bytes.{length-bytes_bits}
use Rattle.bits.proofs.Reading.{number-in}
use Rattle.bits.proofs.Words.{word_below, word-field}
use Rattle.bits_in.proofs.read_number.Goals as goal

pub overflow_cast-result : goal.overflow_cast-result
overflow_cast-result c =
    let a = c.args in
    record { fits = word_below 32 a.bytes.now a.at a.width _ _ _ (omega arith) (omega arith) refl c.two_to.ensures.0 c.half_word.ensures (search rules) }

pub returns-then-index-bytes : goal.returns-then-index-bytes
returns-then-index-bytes c =
    let a = c.args in
    let field = word-field 32 a.bytes.now a.at a.width _ _ _ (omega arith) (omega arith) refl c.two_to.ensures.0 c.half_word.ensures in
    ap Some field ∙ sym (number-in a.width (drop a.at (bytes_bits a.bytes.now)) (simp (length-drop, length-bytes_bits) (omega arith)))
