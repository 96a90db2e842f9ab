-- `enter_lines` meets its contract: the k lines before a have their numbers.
use borrow.Author.Rules.{rules}
use Rattle.vectors_phrases.proofs.OwnLines.{lines_none, place-there, lines_more}
use Rattle.vectors_phrases.proofs.own.enter_lines.Goals as goal

pub loop-k-init : goal.loop-k-init
loop-k-init c = lines_none _ _ _ c.requires.0

pub enter_at-requires : goal.enter_at-requires
enter_at-requires c = place-there c.loop-k.invariant c.requires.1 (search rules)

pub loop-k-preserved : goal.loop-k-preserved
loop-k-preserved c =
    let there = place-there c.loop-k.invariant c.requires.1 (search rules) in
    lines_more c.loop-k.invariant (search rules) c.find-e.ensures.value _ c.part-text.ensures there _ (c.enter_at.ensures.start_lt_own_places (search rules)) (c.enter_at.ensures.index_after (search rules))
