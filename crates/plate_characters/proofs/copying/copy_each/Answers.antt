-- `copy_each` meets its contract. The loops' invariant: the characters passed are copied. The inner loop also knows the bits that are left of
-- the 56. The measure is the bits that are left.
use Prim.Native.Nat.{◌+◌, ◌*◌, ◌^◌, ◌≤◌}
use mathlib.Core.Path.{◌≡◌, sym, ◌∙◌}
use native.Mathlib.Nat.{zero-mul, add-mul}
use native.Mathlib.Omega.{arith}
use lib.Pow.{pow_mono}
use Rattle.output.proofs.Pour.{kept}
use Rattle.output.proofs.Poured.{ended}
use Rattle.bits.proofs.Reading.{number-below}
use Rattle.fields.proofs.Onward.{number-there, number-end}
use Rattle.plate_characters.proofs.Cuts.{left-start, next-fits, passed-fits, left-number, left_below, left-more}
use Rattle.plate_characters.proofs.TextCopy.{copy_start, copy-cut, copy-known, copy-joined, copy_rest, copy_ended, copy_more}
use Rattle.plate_characters.proofs.copying.copy_each.Goals as goal

pub loop-word-init : goal.loop-word-init
loop-word-init c = copy_start c.requires.0 _ _ _ _ (omega arith)

pub loop-init : goal.loop-init
loop-init c = (
  copy_start c.requires.0 _ _ _ _ (omega (arith, ended _ _ _ _ _ c.loop-word.invariant.written)),
  rw (zero-mul c.args.width) (left-start _ _ _ (sym c.read_eight.ensures ∙ c.in-Some.is)),
  omega (arith, zero-mul c.args.width),
)

pub loop-word-preserved-in-loop : goal.loop-word-preserved-in-loop
loop-word-preserved-in-loop c = copy-joined c.requires.0 c.loop-word.invariant c.loop.invariant.0 (omega arith)

pub returns-then-code-eq3-clause-out_after : goal.returns-then-code-eq3-clause-out_after
returns-then-code-eq3-clause-out_after c =
    let fits = next-fits c.args.width c.loop.counter c.requires.0 (omega arith) in
    let known = copy-known c.requires.0 c.loop-word.invariant c.requires.3 in
    let ends = copy_ended c.requires.0 c.loop.invariant.0 known _ (left-number c.args.width c.loop.invariant.1 fits) c.if-code-eq3.true in
    (copy_rest c.requires.0 c.loop-word.invariant c.requires.3 _ ends (omega arith)).0

pub returns-then-code-eq3-clause-next_value : goal.returns-then-code-eq3-clause-next_value
returns-then-code-eq3-clause-next_value c =
    let fits = next-fits c.args.width c.loop.counter c.requires.0 (omega arith) in
    let known = copy-known c.requires.0 c.loop-word.invariant c.requires.3 in
    let ends = copy_ended c.requires.0 c.loop.invariant.0 known _ (left-number c.args.width c.loop.invariant.1 fits) c.if-code-eq3.true in
    (copy_rest c.requires.0 c.loop-word.invariant c.requires.3 _ ends (omega arith)).1

pub overflow_cast-code : goal.overflow_cast-code
overflow_cast-code c =
    let fits = next-fits c.args.width c.loop.counter c.requires.0 (omega arith) in
    let m : 2 ^ c.args.width ≤ 2 ^ 8 = pow_mono c.requires.1 in
    record { fits = omega (arith, left_below c.args.width c.loop.invariant.1 fits) }

pub overflow_mul-left : goal.overflow_mul-left
overflow_mul-left c = rw (c.two_to.ensures.0, c.two_to-in-loop.ensures.0) (omega (arith, passed-fits c.args.width c.loop.left (omega arith)))

pub loop-preserved : goal.loop-preserved
loop-preserved c =
    let w = c.args.width in
    let fits = next-fits w c.loop.counter c.requires.0 (omega arith) in
    let known = copy-known c.requires.0 c.loop-word.invariant c.requires.3 in
    let short = kept _ _ _ _ _ c.loop-word.invariant.written in
    let more : (c.loop.counter + 1) * w ≡ c.loop.counter * w + w = omega (arith, add-mul c.loop.counter 1 w) in (
      copy_more c.requires.0 c.loop.invariant.0 known _ (left-number w c.loop.invariant.1 fits) c.if-code-eq3.false c.put_byte-end.ensures (omega arith),
      rw (c.two_to.ensures.0, c.two_to-in-loop.ensures.0, more) (left-more w c.loop.invariant.1 fits),
      omega (arith, more, c.loop.invariant.2),
    )

pub returns-in_default-read_number-clause-out_after : goal.returns-in_default-read_number-clause-out_after
returns-in_default-read_number-clause-out_after c = let e = sym c.read_number.ensures ∙ c.in_default-read_number.is in
    absurd (copy-cut c.requires.0 c.loop-word.invariant c.requires.3 e)

pub returns-in_default-read_number-clause-next_value : goal.returns-in_default-read_number-clause-next_value
returns-in_default-read_number-clause-next_value c = let e = sym c.read_number.ensures ∙ c.in_default-read_number.is in
    absurd (copy-cut c.requires.0 c.loop-word.invariant c.requires.3 e)

pub overflow_add-bit-in_default : goal.overflow_add-bit-in_default
overflow_add-bit-in_default c = let e = sym c.read_number.ensures ∙ c.in-Some-read_number.is in omega (arith, number-end c.args.plate.now c.loop-word.bit c.args.width _ e)

pub returns-then-code-eq3-2-clause-out_after : goal.returns-then-code-eq3-2-clause-out_after
returns-then-code-eq3-2-clause-out_after c =
    let e = sym c.read_number.ensures ∙ c.in-Some-read_number.is in
    (copy_ended c.requires.0 c.loop-word.invariant c.requires.3 _ (number-there _ _ c.args.width _ e) c.if-code-eq3-2.true).0

pub returns-then-code-eq3-2-clause-next_value : goal.returns-then-code-eq3-2-clause-next_value
returns-then-code-eq3-2-clause-next_value c =
    let e = sym c.read_number.ensures ∙ c.in-Some-read_number.is in
    (copy_ended c.requires.0 c.loop-word.invariant c.requires.3 _ (number-there _ _ c.args.width _ e) c.if-code-eq3-2.true).1

pub overflow_cast-code-in_default : goal.overflow_cast-code-in_default
overflow_cast-code-in_default c = let e = sym c.read_number.ensures ∙ c.in-Some-read_number.is in
    let m : 2 ^ c.args.width ≤ 2 ^ 8 = pow_mono c.requires.1 in
    record { fits = omega (arith, number-below c.args.width _ _ e) }

pub loop-word-smaller : goal.loop-word-smaller
loop-word-smaller c = let e = sym c.read_number.ensures ∙ c.in-Some-read_number.is in omega (arith, number-end c.args.plate.now c.loop-word.bit c.args.width _ e)

pub loop-word-preserved : goal.loop-word-preserved
loop-word-preserved c = let e = sym c.read_number.ensures ∙ c.in-Some-read_number.is in
    copy_more c.requires.0 c.loop-word.invariant c.requires.3 _ (number-there _ _ c.args.width _ e) c.if-code-eq3-2.false c.put_byte-end-in_default.ensures (omega arith)
