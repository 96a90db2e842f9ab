-- `put_asked` meets its contract: the letter, the comma, the text and LF are the Q line.
use Rattle.text.specs.Parts.{join}
use Rattle.transcript.specs.State.{line_bytes}
use borrow.Author.Rules.{rules}
use Rattle.transcript_lines.proofs.put_asked.Goals as goal

pub returns : goal.returns
unfolding line_bytes join
returns c = c.put_text.ensures
