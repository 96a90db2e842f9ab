-- `choose` meets its contract: the answer is taken, as an option's place or as a wrong one, or it is the third wrong one, or none is left.
use mathlib.Core.Path.{◌≡◌, sym, ◌∙◌}
use lib.ListN.{get_or}
use lib.IntN.{pos}
use mir.Syntax.{w32}
use mir.Facts.{to_z-of_z}
use Rattle.transcript.specs.Perform.{is_option}
use Rattle.statements.proofs.Answers.{lay-chosen, lay-wrong, lay-outside, lay-unchosen}
use borrow.Author.Rules.{rules}
use Rattle.statements.proofs.choose.Goals as goal

pub returns-then-is_option : goal.returns-then-is_option
returns-then-is_option c = let l = lay-chosen _ _ _ _ _ _ _ _ c.args.wrong c.if-taken-answers.true c.take_answer-left.ensures.out_after ((let a = c.args in
    sym (simp (to_z-of_z {w = w32} {z = get_or a.answers.now a.m.taken (pos 0)} (record { sfits = c.is_option-arg-1.given })) at c.is_option.ensures)) ∙ c.if-is_option.true) in record { out_after = l.0; again_value = (l.1, search rules) }

pub returns-then-wrong-lt-MORE_TRIES : goal.returns-then-wrong-lt-MORE_TRIES
returns-then-wrong-lt-MORE_TRIES c = let l = lay-wrong _ _ _ _ _ _ _ _ _ c.if-taken-answers.true (c.take_wrong-left.ensures.out_after _) ((let a = c.args in
    sym (simp (to_z-of_z {w = w32} {z = get_or a.answers.now a.m.taken (pos 0)} (record { sfits = c.is_option-arg-1.given })) at c.is_option.ensures)) ∙ c.if-is_option.false) c.if-wrong-lt-MORE_TRIES.true in record { out_after = l.0; again_value = (l.1, search rules) }

pub returns-then-taken-answers : goal.returns-then-taken-answers
returns-then-taken-answers c = let l = lay-outside _ _ _ _ _ _ _ _ _ c.if-taken-answers.true (c.leave-left.ensures.out_value _ _ _) ((let a = c.args in
    sym (simp (to_z-of_z {w = w32} {z = get_or a.answers.now a.m.taken (pos 0)} (record { sfits = c.is_option-arg-1.given })) at c.is_option.ensures)) ∙ c.if-is_option.false) c.if-wrong-lt-MORE_TRIES.false in record { out_after = l.0; again_value = (l.1, search rules) }

pub returns : goal.returns
returns c = let l = lay-unchosen _ _ _ _ _ _ _ _ _ (c.leave-left-2.ensures.out_value _ _ _) c.if-taken-answers.false in record { out_after = l.0; again_value = (l.1, search rules) }
