-- `pass_over` meets its contract: what is left to pass from `at` on, with `depth` ifs open, is what was to pass from a on.
use borrow.Author.Rules.{rules}
use mathlib.Core.Path.{refl, sym, ◌∙◌}
use native.Mathlib.Omega.{arith}
use Rattle.guide.proofs.Passing.{pass-stops, pass-goes, pass-further, open_more}
use Rattle.guide.proofs.places.pass_over.Goals as goal

pub loop-h-init : goal.loop-h-init
loop-h-init c = (refl, search rules, search rules, search rules, search rules)

pub returns-then-stops : goal.returns-then-stops
returns-then-stops c =
    let v = sym c.stops.ensures ∙ c.if-stops.true in
    record { result_value = sym (c.loop-h.invariant.0 ∙ pass-stops _ _ _ _ _ c.role_at-h.ensures v); lower_bound = search rules }

pub loop-h-smaller : goal.loop-h-smaller
loop-h-smaller c =
    let f = pass-further _ _ _ _ _ c.role_at-h.ensures (sym c.stops.ensures ∙ c.if-stops.false) in
    omega arith

pub loop-h-preserved : goal.loop-h-preserved
loop-h-preserved c =
    let v = sym c.stops.ensures ∙ c.if-stops.false in
    let f = pass-further _ _ _ _ _ c.role_at-h.ensures v in
    let o = open_more c.role_at-h.result.role c.loop-h.depth in
    (rw c.open_behind-depth.ensures (c.loop-h.invariant.0 ∙ pass-goes _ _ _ _ _ c.role_at-h.ensures v), omega arith, omega arith, omega arith, c.role_at-h.ensures.clean)
