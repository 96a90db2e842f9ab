-- `find_own` meets its contract: the text is none of the own phrases in front of k.
use Prim.Native.Nat.{◌+◌, ◌/◌, ◌≤◌, ◌<◌}
use mathlib.Core.Path.{◌≡◌, sym, ap, ◌∙◌}
use native.Mathlib.Omega.{arith}
use mathlib.Core.Bool.{false}
use lib.ListN.{length}
use borrow.Author.Rules.{rules}
use Rattle.text.specs.Parts.{same}
use Rattle.phrases.specs.Own.{own_text}
use Rattle.phrases.proofs.OwnEntries.{own-found, own-absent, others-more}
use Rattle.phrase_lookup.proofs.OwnSigns.{numbers-end, numbers-length, number_at, other_text}
use Rattle.phrase_lookup.proofs.own.find_own.Goals as goal
use Rattle.phrase_lookup.proofs.own.find_own.Goals.{else-number-sign-via-then-number-sign+else-same, else-number-sign-via-else-number-sign}

-- the numbers are in the index
room_of : (c : goal.After-count_of-first)
    → let a = c.args in
    129 + c.count_of-first.result + a.count ≤ length a.index.now
room_of c = numbers-end _ _ _ _ c.requires.0 c.count_of-first.ensures _ c.requires.1

pub slice_bounds-numbers-end : goal.slice_bounds-numbers-end
slice_bounds-numbers-end c = let room = room_of c in search rules

pub own_at-requires : goal.own_at-requires
own_at-requires c =
    (c.requires.0, c.requires.1.each _ (omega (arith, numbers-length _ _ _ _ c.requires.0 c.count_of-first.ensures _ c.requires.1)))

pub returns-then-same : goal.returns-then-same
returns-then-same c =
    let a = c.args in
    let below : c.loop-k.k < a.count = omega (arith, numbers-length _ _ _ _ c.requires.0 c.count_of-first.ensures _ c.requires.1) in
    let compared = c.same.ensures ∙ ap (same a.text.now) c.own_at.ensures in
    sym (own-found _ _ _ c.requires.1.whole _ below (sym compared ∙ c.if-same.true) c.loop-k.invariant)

pub loop-k-preserved : goal.loop-k-preserved
loop-k-preserved c =
    let a = c.args in
    let below : c.loop-k.k < a.count = omega (arith, numbers-length _ _ _ _ c.requires.0 c.count_of-first.ensures _ c.requires.1) in
    let here : same a.text.now (own_text a.own.now c.loop-k.k) ≡ false =
    elim c.else-number-sign.branch [
      | else-number-sign-via-then-number-sign+else-same w ↦ sym (w.same.ensures ∙ ap (same a.text.now) w.own_at.ensures) ∙ w.if-same.false
      | else-number-sign-via-else-number-sign w ↦
          let number = number_at _ _ _ _ c.requires.0 c.count_of-first.ensures _ c.requires.1 c.loop-k.k below in
          other_text _ _ _ _ c.requires.0 (c.requires.1.each _ below) _ _ c.requires.2 (λ e. w.if-number-sign.false (ap (λ x. x / 4096) number ∙ e))
    ] in
    others-more _ _ _ c.loop-k.invariant here

pub returns : goal.returns
returns c =
    let size = numbers-length _ _ _ _ c.requires.0 c.count_of-first.ensures _ c.requires.1 in
    sym (own-absent _ _ _ c.requires.1.whole (λ j h. c.loop-k.invariant j (omega (arith, size, c.loop-k-test.false))))
