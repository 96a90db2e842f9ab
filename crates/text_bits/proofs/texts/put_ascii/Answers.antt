-- `put_ascii` meets its contract: a short text with its code and ETX is one number, and a longer one comes behind its code.
use mathlib.Core.Path.{refl}
use Rattle.text_bits.proofs.Codes.{spelled-code}
use Rattle.text_bits.proofs.Characters.{ended}
use Rattle.text_bits.proofs.Writes.{both}
use Rattle.text_bits.proofs.texts.put_ascii.Goals as goal

pub returns-then-text-le-SHORT : goal.returns-then-text-le-SHORT
returns-then-text-le-SHORT c =
    let a = c.args in
    rw (← spelled-code a.width a.front, ended 7 c.joined.result a.text.now c.joined.ensures.value refl) c.put_behind.ensures

pub returns : goal.returns
returns c =
    let code = rw (spelled-code c.args.width c.args.front) at c.put_bits-end.ensures in
    both _ _ _ _ code c.put_spelled.ensures c.requires.0
