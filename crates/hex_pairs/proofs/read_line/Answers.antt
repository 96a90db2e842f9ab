-- `read_line` meets its contract: the pairs of the line are those written and those of what is left.
use Rattle.std.proofs.Common.{rules, ◌∙◌}
use Rattle.hex_pairs.proofs.Reading.{pairs-none, pairs-space, pairs-lone, pairs-two, passed, stopped, stored}
use Rattle.hex_pairs.proofs.read_line.Goals as goal

pub loop-left-preserved-then-first-eq32 : goal.loop-left-preserved-then-first-eq32
loop-left-preserved-then-first-eq32 c =
    passed _ _ _ _ _ _ c.loop-left.invariant _ (pairs-space c.loop-left.left.now c.in-len1-up.len_at_least c.if-first-eq32.true)

pub returns-in_default-behind : goal.returns-in_default-behind
returns-in_default-behind c =
    stopped _ _ _ _ _ _ c.loop-left.invariant _ (pairs-lone c.loop-left.left.now c.in-len1-up.len_at_least c.if-first-eq32.false c.in_default-behind.len_below)

pub returns-in_default-byte_of : goal.returns-in_default-byte_of
returns-in_default-byte_of c =
    stopped _ _ _ _ _ _ c.loop-left.invariant _ (pairs-two c.loop-left.left.now c.in-len1-up.len_at_least c.if-first-eq32.false c.in-len1-up-behind.len_at_least ∙ c.in_default-byte_of.ensures _)

pub loop-left-preserved : goal.loop-left-preserved
loop-left-preserved c =
    stored _ _ _ _ _ _ c.loop-left.invariant _ _ _ _ (pairs-two c.loop-left.left.now c.in-len1-up.len_at_least c.if-first-eq32.false c.in-len1-up-behind.len_at_least ∙ c.in-Some.ensures _) c.put_byte-end.ensures (search rules) (search rules)

pub returns : goal.returns
returns c = stopped _ _ _ _ _ _ c.loop-left.invariant _ (pairs-none c.loop-left.left.now c.in_default.len_below)
