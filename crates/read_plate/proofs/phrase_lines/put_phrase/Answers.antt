-- `put_phrase` meets its contract: the word with its comma, the text and LF are the line.
use native.Mathlib.Omega.{arith}
use Rattle.text.specs.Parts.{join}
use Rattle.output.proofs.Pour.{then}
use Rattle.listing.specs.Listing.{lines_text}
use Rattle.read_plate.proofs.phrase_lines.put_phrase.Goals as goal

pub returns : goal.returns
unfolding lines_text join
returns c = then _ _ _ _ _ _ _ (then _ _ _ _ _ _ _ c.put-end.ensures c.put-end-2.ensures (omega arith)) c.put_byte.ensures (omega arith)
