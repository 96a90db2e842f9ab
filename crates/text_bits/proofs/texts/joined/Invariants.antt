-- `joined` meets its contract: the characters passed are the number so far.
use Rattle.text_bits.proofs.Characters.{Joined}
use Rattle.text_bits.proofs.texts.joined.Given as goal

abbrev pub invariant-loop-c : goal.invariant-loop-c
invariant-loop-c l = Joined l.width l.group l.c-index l.value
