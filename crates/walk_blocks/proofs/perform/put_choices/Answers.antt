-- `put_choices` meets its contract: the bytes of the line from the question on, behind the letter.
use Rattle.walk_blocks.proofs.Options.{question-there, offered-line}
use Rattle.walk_blocks.proofs.perform.put_choices.Goals as goal

pub slice_bounds-put_offered-count : goal.slice_bounds-put_offered-count
slice_bounds-put_offered-count c = question-there _ _ c.part_start-a.ensures c.requires

pub slice_bounds-put_offered-start : goal.slice_bounds-put_offered-start
slice_bounds-put_offered-start c = question-there _ _ c.part_start-a.ensures c.requires

pub returns : goal.returns
returns c = offered-line _ _ c.part_start-a.ensures c.requires _ _ _ c.put_offered.ensures
