-- `gather` meets its contract. The loops' invariant: the characters passed are counted and copied. The inner loop also knows the bits that are
-- left of the 56. The measure is the bits that are left.
use Prim.Native.Nat.{◌+◌, ◌*◌}
use mathlib.Core.Path.{◌≡◌, sym, ◌∙◌}
use native.Mathlib.Nat.{zero-mul, add-mul}
use native.Mathlib.Omega.{arith}
use Rattle.output.specs.Pour.{pour}
use Rattle.output.proofs.Poured.{stored}
use Rattle.fields.specs.Places.{size_read}
use Rattle.fields.proofs.Exits.{handed-on}
use Rattle.plate_characters.specs.Gathered.{gathered}
use Rattle.plate_characters.proofs.Characters.{so-far-stopped, so-far-ended, character-read, character-is, character-not}
use Rattle.plate_characters.proofs.Cuts.{left-start, next-fits, passed-fits, left-number, left-more}
use Rattle.plate_characters.proofs.Gathers.{gather-start, gather-refused, gather-byte, gather-more}
use Rattle.plate_characters.proofs.gathering.gather.Goals as goal

pub loop-word-init : goal.loop-word-init
loop-word-init c = gather-start c.requires.0 _ _ _

pub loop-init : goal.loop-init
loop-init c = (
  c.loop-word.invariant,
  rw (zero-mul c.args.width) (left-start _ _ _ (sym c.read_eight.ensures ∙ c.in-Some.is)),
  omega (arith, zero-mul c.args.width),
)

pub returns-then-not-is_character-clause-result_value : goal.returns-then-not-is_character-clause-result_value
returns-then-not-is_character-clause-result_value c =
    let fits = next-fits c.args.width c.loop.counter c.requires.0 (omega arith) in
    let wrong = sym c.is_character.ensures ∙ c.if-not-is_character.true in
    let e = character-not c.requires.0 _ _ _ (left-number c.args.width c.loop.invariant.1 fits) wrong in
    so-far-stopped c.requires.0 c.loop.invariant.0.text.text e

pub returns-then-not-is_character-clause-out_after : goal.returns-then-not-is_character-clause-out_after
returns-then-not-is_character-clause-out_after c =
    let fits = next-fits c.args.width c.loop.counter c.requires.0 (omega arith) in
    let wrong = sym c.is_character.ensures ∙ c.if-not-is_character.true in
    let e = character-not c.requires.0 _ _ _ (left-number c.args.width c.loop.invariant.1 fits) wrong in
    gather-refused c.requires.0 c.loop.invariant.0 _ e

pub returns-then-code-eq3-clause-result_value : goal.returns-then-code-eq3-clause-result_value
returns-then-code-eq3-clause-result_value c =
    let fits = next-fits c.args.width c.loop.counter c.requires.0 (omega arith) in
    let good = sym c.is_character.ensures ∙ c.if-not-is_character.false in
    let e = character-is c.requires.0 _ _ _ (left-number c.args.width c.loop.invariant.1 fits) good in
    so-far-ended c.requires.0 c.loop.invariant.0.text.text _ _ e c.if-code-eq3.true

pub returns-then-code-eq3-clause-out_after : goal.returns-then-code-eq3-clause-out_after
returns-then-code-eq3-clause-out_after c = stored _ _ _ _ _ c.loop.invariant.0.written

pub overflow_cast-code : goal.overflow_cast-code
overflow_cast-code c =
    let fits = next-fits c.args.width c.loop.counter c.requires.0 (omega arith) in
    let good = sym c.is_character.ensures ∙ c.if-not-is_character.false in
    let e = character-is c.requires.0 _ _ _ (left-number c.args.width c.loop.invariant.1 fits) good in
    record { fits = omega (arith, gather-byte c.requires.0 c.loop.invariant.0 _ e c.requires.1) }

pub overflow_mul-left : goal.overflow_mul-left
overflow_mul-left c = rw (c.two_to.ensures.0, c.two_to-in-loop.ensures.0) (omega (arith, passed-fits c.args.width c.loop.left (omega arith)))

pub loop-preserved : goal.loop-preserved
loop-preserved c =
    let fits = next-fits c.args.width c.loop.counter c.requires.0 (omega arith) in
    let good = sym c.is_character.ensures ∙ c.if-not-is_character.false in
    let e = character-is c.requires.0 _ _ _ (left-number c.args.width c.loop.invariant.1 fits) good in
    let more : (c.loop.counter + 1) * c.args.width ≡ c.loop.counter * c.args.width + c.args.width = omega (arith, add-mul c.loop.counter 1 c.args.width) in (
      gather-more c.requires.0 c.loop.invariant.0 _ e c.if-code-eq3.false c.requires.2 c.put_byte-size.ensures (omega arith),
      rw (c.two_to.ensures.0, c.two_to-in-loop.ensures.0, more) (left-more c.args.width c.loop.invariant.1 fits),
      omega (arith, more, c.loop.invariant.2),
    )

pub returns-in_err-code-clause-result_value : goal.returns-in_err-code-clause-result_value
returns-in_err-code-clause-result_value c =
    handed-on (size_read _ _ _) c.from_residual.result c.from_residual.ensures.1
    ∙ so-far-stopped c.requires.0 c.loop-word.invariant.text.text c.in_err-code.ensures

pub returns-in_err-code-clause-out_after : goal.returns-in_err-code-clause-out_after
returns-in_err-code-clause-out_after c =
    gather-refused c.requires.0 c.loop-word.invariant _ c.in_err-code.ensures
    ∙ sym (handed-on (λ r. pour 0 (gathered c.args.width c.args.plate.now c.args.at r) c.args.out.now) c.from_residual.result c.from_residual.ensures.1)

pub returns-then-code-eq3-2-clause-result_value : goal.returns-then-code-eq3-2-clause-result_value
returns-then-code-eq3-2-clause-result_value c = so-far-ended c.requires.0 c.loop-word.invariant.text.text _ _ c.in_ok-code.ensures c.if-code-eq3-2.true

pub returns-then-code-eq3-2-clause-out_after : goal.returns-then-code-eq3-2-clause-out_after
returns-then-code-eq3-2-clause-out_after c = stored _ _ _ _ _ c.loop-word.invariant.written

pub overflow_cast-code-in_default : goal.overflow_cast-code-in_default
overflow_cast-code-in_default c = record { fits = omega (arith, gather-byte c.requires.0 c.loop-word.invariant _ c.in_ok-code.ensures c.requires.1) }

pub loop-word-smaller : goal.loop-word-smaller
loop-word-smaller c =
    let r = character-read c.requires.0 _ _ c.in_ok-code.ensures in
    omega (arith, r.behind, r.room, c.requires.0)

pub loop-word-preserved : goal.loop-word-preserved
loop-word-preserved c =
    gather-more c.requires.0 c.loop-word.invariant _ c.in_ok-code.ensures c.if-code-eq3-2.false c.requires.2 c.put_byte-size-in_default.ensures (omega arith)
