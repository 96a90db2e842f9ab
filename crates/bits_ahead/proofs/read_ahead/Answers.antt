-- `bits_ahead::read_ahead` meets its contract: 25 bits of four bytes. Assumes nothing.
use Rattle.std.proofs.Common.{◌≡◌, refl, ◌∙◌, ◌/◌, rules}
use Rattle.bits.specs.Bits.{value_of, bytes_bits}
use Rattle.bits.specs.Ahead.{four_from}
use Rattle.bits_ahead.proofs.Ahead.{four-there, ahead-value}
use Rattle.bits_ahead.proofs.read_ahead.Goals as goal
use Rattle.bits_ahead.proofs.read_ahead.Goals.{then-index-bytes, else-index-bytes}

pub returns : goal.returns
returns c =
    let bytes = c.args.bytes.now in
    let four : c.if-index-bytes.word ≡ value_of (bytes_bits (four_from bytes (c.args.at / 8))) =
    elim c.if-index-bytes.branch [
      | then-index-bytes w ↦ w.word-is ∙ w.half_word-word.ensures ∙ four-there bytes _ (search rules)
      | else-index-bytes w ↦ w.word-is ∙ w.last_bytes-word.ensures
    ] in
    ahead-value bytes c.args.at _ _ four refl
