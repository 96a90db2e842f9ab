-- `part_start` meets its contract: the parts from k on are those from a on without as many as are not yet passed.
use Rattle.std.proofs.Common.{rules, ◌≡◌, ◌-◌, ◌+◌, ap, ◌∙◌, drop, arith}
use Rattle.text.proofs.Places.{parts_whole, pass-last, pass-next}
use Rattle.text_parts.proofs.parts.part_start.Goals as goal

pub loop-passed-init : goal.loop-passed-init
loop-passed-init c = let e : c.args.k - 0 ≡ c.args.k = omega arith in (rw e (ap (drop c.args.k) (parts_whole _ _)), search rules)

pub returns-then-s-a : goal.returns-then-s-a
returns-then-s-a c = c.loop-passed.invariant.0 ∙ pass-last _ _ _ c.if-s-a.true _

pub loop-passed-preserved : goal.loop-passed-preserved
loop-passed-preserved c =
    let left = c.args.k - c.loop-passed.passed in
    let e : left - 1 ≡ c.args.k - (c.loop-passed.passed + 1) = omega arith in
    (rw (← e) (c.loop-passed.invariant.0 ∙ pass-next _ _ _ _ c.if-s-a.false c.find-a.ensures.value left (λ z. omega arith)), search rules)
