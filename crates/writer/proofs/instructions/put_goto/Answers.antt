-- `put_goto` meets its contract: the code and the skip are one number.
use mathlib.Core.Path.{sym}
use Rattle.writer.proofs.Codes.{goto-skip}
use Rattle.writer.proofs.instructions.put_goto.Goals as goal

pub returns : goal.returns
returns c = let a = c.args in rw (sym (goto-skip a.skip)) c.put_bits.ensures
