-- `decide` meets its contract: one step, and the skip is passed over where the test does not hold.
use mathlib.Core.Path.{sym, ◌∙◌}
use Rattle.run_steps.proofs.Meeting.{lay-stepped, over-held, over-not-held}
use Rattle.run_steps.proofs.decide.Goals as goal

pub returns-then-holds : goal.returns-then-holds
returns-then-holds c =
    record { out_value = λ answers out. lay-stepped _ out _ _ _ (c.go_on.ensures.out_value _ answers out) (c.stepped-n.ensures.result_value _ answers); over_value = λ answers. c.go_on.ensures.over_value.0 ∙ over-held _ _ _ (sym c.if-holds.true ∙ c.holds.ensures _ _); next_value = (c.go_on.ensures.over_value.1, c.go_on.ensures.over_value.2 ∙ c.stepped-n.ensures.taken_value.1) }

pub returns-else-holds : goal.returns-else-holds
returns-else-holds c =
    record { out_value = λ answers out. lay-stepped _ out _ _ _ (c.go_on-else-holds.ensures.out_value _ answers out) (c.stepped-n.ensures.result_value _ answers); over_value = λ answers. c.go_on-else-holds.ensures.over_value.0 ∙ over-not-held _ _ _ (sym c.if-holds.false ∙ c.holds.ensures _ _); next_value = (c.go_on-else-holds.ensures.over_value.1, c.go_on-else-holds.ensures.over_value.2 ∙ c.stepped-n.ensures.taken_value.1) }
