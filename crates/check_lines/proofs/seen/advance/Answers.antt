-- `advance` meets its contract, head by head: a line with no cause finds room.
use Rattle.check_lines.proofs.Room.{phrase-room, if-room, else-has-if, fi-has-if}
use Rattle.check_lines.proofs.seen.advance.Goals as goal

pub one_more_phrase-requires : goal.one_more_phrase-requires
one_more_phrase-requires c = phrase-room _ _ (rw c.in-Phrase.is at c.requires.0)

pub opened-requires : goal.opened-requires
opened-requires c = let h = if-room _ _ _ (rw c.in-If.is at c.requires.0) in (h.0, h.1, c.requires.1)

pub turned-requires : goal.turned-requires
turned-requires c = let h = else-has-if _ _ (rw c.in-Else.is at c.requires.0) in (h.0, h.1, c.requires.1)

pub closed-requires : goal.closed-requires
closed-requires c = fi-has-if _ _ (rw c.in-Fi.is at c.requires.0)

pub returns-in-Phrase : goal.returns-in-Phrase
returns-in-Phrase c = λ x. simp c.in-Phrase.is (c.one_more_phrase.ensures c.args.n x c.args.opens.now c.requires.1)

pub returns-in-If : goal.returns-in-If
returns-in-If c = λ x. simp c.in-If.is (c.opened.ensures c.in-If.test)

pub returns-in-Else : goal.returns-in-Else
returns-in-Else c = λ x. simp c.in-Else.is (c.turned.ensures c.args.n)

pub returns-in-Fi : goal.returns-in-Fi
returns-in-Fi c = λ x. simp c.in-Fi.is (c.closed.ensures c.args.n c.args.opens.now c.requires.1)
