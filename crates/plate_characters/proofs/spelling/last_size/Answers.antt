-- `last_size` meets its contract. The loop's invariant: the characters passed and those behind them are the whole text.
-- The measure is the bits that are left.
use mathlib.Core.Path.{◌∙◌}
use native.Mathlib.Nat.{le-mul_of_pos_right}
use native.Mathlib.Omega.{arith}
use Rattle.fields.proofs.Exits.{handed-on}
use Rattle.fields.specs.Places.{size_read}
use Rattle.plate_characters.proofs.Characters.{size-start, size-more, so-far-stopped, so-far-ended, character-read}
use Rattle.plate_characters.proofs.spelling.last_size.Goals as goal

pub loop-code-init : goal.loop-code-init
loop-code-init c = size-start c.requires.0 _ _

pub returns-in_err-code : goal.returns-in_err-code
returns-in_err-code c =
    handed-on (size_read _ _ _) c.from_residual.result c.from_residual.ensures.1
    ∙ so-far-stopped c.requires.0 c.loop-code.invariant.text c.in_err-code.ensures

pub returns-then-code-eq3 : goal.returns-then-code-eq3
returns-then-code-eq3 c = let e = c.in_ok-code.ensures in so-far-ended c.requires.0 c.loop-code.invariant.text _ _ e c.if-code-eq3.true

pub overflow_add-size : goal.overflow_add-size
overflow_add-size c = let e = c.in_ok-code.ensures in
    let r = character-read c.requires.0 _ _ e in
    omega (arith, c.loop-code.invariant.place, r.room, le-mul_of_pos_right c.loop-code.size c.requires.0)

pub loop-code-smaller : goal.loop-code-smaller
loop-code-smaller c = let e = c.in_ok-code.ensures in
    let r = character-read c.requires.0 _ _ e in
    omega (arith, r.behind, r.room)

pub loop-code-preserved : goal.loop-code-preserved
loop-code-preserved c = let e = c.in_ok-code.ensures in size-more c.requires.0 c.loop-code.invariant _ _ e c.if-code-eq3.false
