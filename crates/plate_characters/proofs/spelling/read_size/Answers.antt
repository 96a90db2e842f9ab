-- `read_size` meets its contract. The loops' invariant: the characters passed and those behind them are the whole text. The inner loop also
-- knows the bits that are left of the eight characters. The measures are the bits that are left, and the characters left of the eight.
use Prim.Native.Nat.{◌+◌, ◌*◌, ◌<◌}
use mathlib.Core.Path.{◌≡◌, sym, ◌∙◌}
use native.Mathlib.Omega.{arith}
use Rattle.fields.specs.Places.{size_read}
use Rattle.fields.proofs.Exits.{handed-on}
use Rattle.plate_characters.proofs.Characters.{size-start, size-more, size_few, size-joined, so-far-stopped, so-far-behind, so-far-ended, character-end, character-text, character-wrong}
use Rattle.plate_characters.proofs.Cuts.{left-start, left-number, left-more}
use Rattle.plate_characters.proofs.spelling.read_size.Goals as goal

some_bits : 0 < 7
some_bits = omega arith

pub loop-eight-init : goal.loop-eight-init
loop-eight-init c = size-start some_bits _ _

pub returns-in_err-more : goal.returns-in_err-more
returns-in_err-more c =
    handed-on (size_read _ _ _) c.from_residual.result c.from_residual.ensures.1
    ∙ so-far-behind some_bits c.loop-eight.invariant.text c.in_err-more.ensures

pub overflow_add-result : goal.overflow_add-result
overflow_add-result c = let e = c.in_ok-more.ensures in
    omega (arith, size_few some_bits c.loop-eight.invariant _ _ e)

pub returns-in_default : goal.returns-in_default
returns-in_default c = let e = c.in_ok-more.ensures in
    size-joined some_bits c.loop-eight.invariant _ _ e

pub loop-init : goal.loop-init
loop-init c = (c.loop-eight.invariant, left-start _ _ _ (sym c.read_eight.ensures ∙ c.in-Some.is), omega arith)

pub loop-eight-smaller : goal.loop-eight-smaller
loop-eight-smaller c = omega (arith, c.loop.invariant.1.room, c.loop.invariant.1.most, c.loop.invariant.2)

pub loop-eight-preserved : goal.loop-eight-preserved
loop-eight-preserved c = c.loop.invariant.0

pub returns-then-code-eq3 : goal.returns-then-code-eq3
returns-then-code-eq3 c = so-far-ended some_bits c.loop.invariant.0.text _ _ (character-end some_bits _ _ _ (left-number 7 c.loop.invariant.1 (omega arith)) c.if-code-eq3.true) c.if-code-eq3.true

pub returns-then-not-is_text_byte : goal.returns-then-not-is_text_byte
returns-then-not-is_text_byte c = let e = left-number 7 c.loop.invariant.1 (omega arith) in
    let wrong = sym c.is_text_byte.ensures ∙ c.if-not-is_text_byte.true in
    so-far-stopped some_bits c.loop.invariant.0.text (character-wrong some_bits _ _ _ e c.if-code-eq3.false wrong)

pub overflow_add-size : goal.overflow_add-size
overflow_add-size c = omega (arith, c.loop.invariant.0.place, c.loop.invariant.1.room)

pub loop-preserved : goal.loop-preserved
loop-preserved c = let plain = sym c.is_text_byte.ensures ∙ c.if-not-is_text_byte.false in
    let e = character-text some_bits _ _ _ (left-number 7 c.loop.invariant.1 (omega arith)) c.if-code-eq3.false plain in
    let more : (c.loop.counter + 1) * 7 ≡ c.loop.counter * 7 + 7 = omega arith in (
      size-more some_bits c.loop.invariant.0 _ _ e c.if-code-eq3.false,
      rw more (left-more 7 c.loop.invariant.1 (omega arith)),
      omega arith,
    )
