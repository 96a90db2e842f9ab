-- `read_pairs` meets its contract: the pairs of the text are those written and those of the lines not yet read.
use Rattle.std.proofs.Common.{rules, ◌≡◌, ◌∙◌, ◌+◌, ap, length, ◌++◌, ◌∷◌, [], length-append}
use borrow.Author.Tests.{tests}
use lib.Dec.{eqb}
use Rattle.std.proofs.lemmas.Iterator.Consumers.{YieldsList-at, YieldsList-from_enumerate, YieldsList-turn, YieldsList-end}
use Rattle.std.proofs.lemmas.Iterator.Splits.{YieldsList-from_slice_split}
use Rattle.text.specs.Parts.{LF}
use Rattle.hex_pairs.specs.Pairs.{unlabelled}
use Rattle.hex_pairs.proofs.Reading.{lines-stopped, lines-fault, lines-onward, numbered, all_numbered}
use Rattle.hex_pairs.proofs.read_pairs.Goals as goal

pub loop-i-preserved : goal.loop-i-preserved
loop-i-preserved c =
    let turn = YieldsList-turn (YieldsList-at c.into_iter-i-iterator.ensures.into_iter_gives (YieldsList-from_enumerate (YieldsList-at c.enumerate-i-items.ensures.source (YieldsList-from_slice_split _ (λ b. eqb b LF) c.args.text.now c.split.ensures.rest c.split.ensures.done c.split.ensures.closure (λ x b q k. search (rules, tests)))) c.enumerate-i-items.ensures.count)) c.loop-i.yielded c.loop-i.i-iterator c.loop-i.yielded_by c.next.result c.next.new.self (c.in-Some.i, c.in-Some.line) c.in-Some.is c.next.ensures.steps in
    let here = numbered c.args.text.now (length c.loop-i.yielded) c.in-Some.i c.in-Some.line.now turn.0 turn.1 in
    let line = c.unlabelled.ensures ∙ ap unlabelled here.2 in
    let more : length (c.loop-i.yielded ++ ((c.in-Some.i, c.in-Some.line) ∷ [])) ≡ length c.loop-i.yielded + 1 = length-append _ _ in
    rw more (lines-onward _ _ _ _ _ c.loop-i.invariant _ here.0 line _ _ c.in-Ok.ensures.0 c.in-Ok.ensures.1 (search rules) (search rules))

pub returns-in-Err : goal.returns-in-Err
returns-in-Err c =
    let turn = YieldsList-turn (YieldsList-at c.into_iter-i-iterator.ensures.into_iter_gives (YieldsList-from_enumerate (YieldsList-at c.enumerate-i-items.ensures.source (YieldsList-from_slice_split _ (λ b. eqb b LF) c.args.text.now c.split.ensures.rest c.split.ensures.done c.split.ensures.closure (λ x b q k. search (rules, tests)))) c.enumerate-i-items.ensures.count)) c.loop-i.yielded c.loop-i.i-iterator c.loop-i.yielded_by c.next.result c.next.new.self (c.in-Some.i, c.in-Some.line) c.in-Some.is c.next.ensures.steps in
    let here = numbered c.args.text.now (length c.loop-i.yielded) c.in-Some.i c.in-Some.line.now turn.0 turn.1 in
    let line = c.unlabelled.ensures ∙ ap unlabelled here.2 in
    let r = lines-fault _ _ _ _ _ c.loop-i.invariant _ here.0 line _ _ c.in-Err.ensures.0 c.in-Err.ensures.1 (search rules) (search rules) in
    record { out_after = r.0; fault_value = rw here.1 r.1 }

pub returns : goal.returns
returns c =
    let end = YieldsList-end (YieldsList-at c.into_iter-i-iterator.ensures.into_iter_gives (YieldsList-from_enumerate (YieldsList-at c.enumerate-i-items.ensures.source (YieldsList-from_slice_split _ (λ b. eqb b LF) c.args.text.now c.split.ensures.rest c.split.ensures.done c.split.ensures.closure (λ x b q k. search (rules, tests)))) c.enumerate-i-items.ensures.count)) c.loop-i.yielded c.loop-i.i-iterator c.loop-i.yielded_by c.next.result c.next.new.self c.in-None.is c.next.ensures.steps in
    let all = all_numbered c.args.text.now (length c.loop-i.yielded) end.1 in
    let r = lines-stopped _ _ _ _ _ c.loop-i.invariant all in
    record { out_after = r.0; fault_value = r.1 }
