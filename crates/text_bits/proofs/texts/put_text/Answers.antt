-- `put_text` meets its contract: the place of a phrase, or the characters.
use mathlib.Core.Path.{sym, ◌∙◌}
use Rattle.phrases.proofs.Answers.{found-is}
use Rattle.plate.specs.Writing.{text_bits}
use Rattle.text_bits.proofs.texts.put_text.Goals as goal

pub returns-in-None : goal.returns-in-None
unfolding text_bits
returns-in-None c = rw (found-is _ _ (sym c.find.ensures ∙ c.in-None.is)) c.put_new.ensures
