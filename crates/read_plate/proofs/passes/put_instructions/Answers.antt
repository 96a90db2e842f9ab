-- `put_instructions` meets its contract. The loop's invariant: what is left of the instructions makes all of them.
use Rattle.std.proofs.Common.{refl, rules, arith}
use Rattle.listing.specs.Listing.{instruction_fields}
use Rattle.listing_lines.proofs.Pieces.{lines-pieces, left-all, left-more, left-none, left-read}
use Rattle.instructions.proofs.Headed.{instruction-ended}
use Rattle.read_plate.proofs.passes.put_instructions.Goals as goal

pub loop-behind-init : goal.loop-behind-init
loop-behind-init c = (left-all (lines-pieces instruction_fields) _ _ _ _ c.requires.1 (omega arith), refl)

pub line_at-copied-requires : goal.line_at-copied-requires
line_at-copied-requires c = (search rules, record { good = λ e. left-read (lines-pieces instruction_fields) _ _ _ c.loop-behind.invariant.0 (omega arith) e })

pub loop-behind-preserved : goal.loop-behind-preserved
loop-behind-preserved c = (left-more (lines-pieces instruction_fields) _ _ _ c.loop-behind.invariant.0 (omega arith) (instruction-ended _ _ c.line_at-copied.ensures.next_value) c.line_at-copied.ensures.out_after (omega arith), search rules)

pub returns : goal.returns
returns c = left-none (lines-pieces instruction_fields) _ _ c.loop-behind.behind c.loop-behind.invariant.0 (omega arith)
