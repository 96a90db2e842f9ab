-- `put_phrase` meets its contract: three writings, one behind the other.
use native.Mathlib.Omega.{arith}
use Rattle.output.proofs.Pour.{then}
use Rattle.reader.specs.Own.{phrase_line}
use Rattle.reader.proofs.own.put_phrase.Goals as goal

pub returns : goal.returns
unfolding phrase_line
returns c = let e = then _ _ _ _ _ _ _ c.put-text_at.ensures
    c.copy_each-copied.ensures.out_after (omega arith) in
    then _ _ _ _ _ _ _ e c.put_byte.ensures (omega arith)
