-- `put_new` meets its contract: an ASCII text by 00 and in 7 bits, another by 01 and in 8 bits.
use mathlib.Core.Path.{sym, ◌∙◌}
use mathlib.Core.List.{append_assoc}
use Rattle.text_bits.proofs.Codes.{bytes-code}
use Rattle.text_bits.proofs.Writes.{both}
use Rattle.text_bits.proofs.texts.put_new.Goals as goal

pub returns-then-is_ascii : goal.returns-then-is_ascii
returns-then-is_ascii c = let plain = sym c.is_ascii.ensures ∙ c.if-is_ascii.true in rw (plain, ← append_assoc) c.put_ascii.ensures

pub returns-else-is_ascii : goal.returns-else-is_ascii
returns-else-is_ascii c =
    let other = sym c.is_ascii.ensures ∙ c.if-is_ascii.false in
    let code = rw (bytes-code c.args.width c.args.front) at c.put_bits-end.ensures in
    rw (other, ← append_assoc) (both _ _ _ _ code c.put_spelled.ensures c.requires.0)
