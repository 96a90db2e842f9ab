-- `check_lines` meets its contract: the n lines before a have no cause, s and the array are held of them, and their own phrases have
-- their numbers.
use Prim.Native.Nat.{◌+◌}
use mathlib.Core.Path.{refl, sym, ap, ◌∙◌}
use borrow.Author.Rules.{rules}
use Rattle.lines.specs.Answers.{checked_answer}
use Rattle.check_lines.proofs.LinesPassed.{passed_none, own-count, passed-end, unended, line_refused, line-head, passing, line-passed}
use Rattle.check_lines.proofs.NumbersOn.{numbered-none, enters, numbered_next}
use Rattle.check_lines.proofs.Judged.{mapped-head, mapped-refusal}
use Rattle.std.proofs.lemmas.Result.{err_from_is_err_and}
use Rattle.check_lines.proofs.checking.check_lines.Goals as goal

pub loop-a-init : goal.loop-a-init
loop-a-init c = (passed_none _ _ _ _ refl, numbered-none _ _ _ _ c.requires.0 c.requires.1)

pub enter_phrase-requires : goal.enter_phrase-requires
enter_phrase-requires c =
    let j = rw c.new-known.ensures at c.judge_line.ensures in
    let i = mapped-head _ c.in_ok-head.ensures.cases in
    let z = line-head c.loop-a.invariant.0 c.find-e.ensures.value c.find-e.ensures.upper_bound c.if-e-text.false j i in
    λ h. enters c.loop-a.invariant.0 c.loop-a.invariant.1 c.find-e.ensures.value c.find-e.ensures.upper_bound c.if-e-text.false z (passing c.loop-a.invariant.0 c.find-e.ensures.value c.find-e.ensures.upper_bound c.if-e-text.false j i) h

pub advance-s-requires : goal.advance-s-requires
advance-s-requires c =
    let j = rw c.new-known.ensures at c.judge_line.ensures in
    (passing c.loop-a.invariant.0 c.find-e.ensures.value c.find-e.ensures.upper_bound c.if-e-text.false j (mapped-head _ c.in_ok-head.ensures.cases), c.loop-a.invariant.0.sound)

pub loop-a-preserved : goal.loop-a-preserved
loop-a-preserved c =
    let j = rw c.new-known.ensures at c.judge_line.ensures in
    let i = mapped-head _ c.in_ok-head.ensures.cases in
    let z = line-head c.loop-a.invariant.0 c.find-e.ensures.value c.find-e.ensures.upper_bound c.if-e-text.false j i in
    let p = passing c.loop-a.invariant.0 c.find-e.ensures.value c.find-e.ensures.upper_bound c.if-e-text.false j i in
    let g = line-passed c.loop-a.invariant.0 c.find-e.ensures.value c.find-e.ensures.upper_bound c.if-e-text.false j i _ _ c.advance-s.ensures in (
      g,
      numbered_next c.loop-a.invariant.0 c.loop-a.invariant.1 c.find-e.ensures.value c.find-e.ensures.upper_bound c.if-e-text.false (own-count g) _ z p
          c.advance-s.ensures c.enter_phrase.ensures,
    )

pub returns-then-e-text-clause-value : goal.returns-then-e-text-clause-value
returns-then-e-text-clause-value c =
    sym (ap checked_answer (unended c.loop-a.invariant.0 c.find-e.ensures.value c.loop-a-test.true c.if-e-text.true))

pub returns-in_err-head-clause-value : goal.returns-in_err-head-clause-value
returns-in_err-head-clause-value c =
    let j = rw c.new-known.ensures at c.judge_line.ensures in
    let m = mapped-refusal (c.loop-a.n + 1) _ c.map_err.result _ c.map_err.ensures.cases (λ e d k. search rules) c.in_err-head.was in
    let p = err_from_is_err_and c.from_residual.result c.from_residual.ensures.1 in
    rw (p.1, p.2, m.2) (sym (ap checked_answer (line_refused c.loop-a.invariant.0 c.find-e.ensures.value c.find-e.ensures.upper_bound c.if-e-text.false j m.1)))

pub returns-clause-value : goal.returns-clause-value
returns-clause-value c =
    c.at_end.ensures _ c.loop-a.invariant.0.holds.own
    ∙ sym (ap checked_answer (passed-end c.loop-a.invariant.0 c.loop-a-test.false))
