-- `put_words` meets its contract: the place, the cause and LF are written one behind the other.
use native.Mathlib.Omega.{arith}
use Rattle.output.proofs.Pour.{then}
use Rattle.refusal_words.specs.Words.{words_line}
use Rattle.refusal_words.proofs.put_words.Goals as goal

pub returns : goal.returns
unfolding words_line
returns c = let place = rw c.place_of.ensures at c.put_place-end.ensures in
    let words = rw c.cause_words.ensures at c.put-end.ensures in
    let one = then _ _ _ _ _ _ _ place words (omega arith) in
    then _ _ _ _ _ _ _ one c.put_byte.ensures (omega arith)
