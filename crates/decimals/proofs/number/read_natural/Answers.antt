-- `read_natural` meets its contract: the number is what the digits from the index on make behind those of `value`.
use Rattle.std.proofs.Common.{sym, ◌∙◌, arith}
use Rattle.decimals.proofs.Reading.{natural-none, natural-led, natural-starts, within-past, within_end, within-not, within-next}
use Rattle.decimals.proofs.number.read_natural.Goals as goal
use Rattle.decimals.proofs.number.read_natural.Goals.{in_default, in_default-2}

pub returns-in-empty : goal.returns-in-empty
returns-in-empty c = simp (natural-none c.args.limit c.args.s.now (omega arith))

pub returns-in-empty-2 : goal.returns-in-empty-2
returns-in-empty-2 c = simp (natural-led c.args.limit c.args.s.now (λ e. omega arith) (λ e. omega arith) (omega arith))

pub loop-b-init : goal.loop-b-init
loop-b-init c = (
  elim c.if-s-lt2.branch [
    | in_default w ↦ natural-starts _ _ (λ e. omega arith) (λ h e. omega arith)
    | in_default-2 w ↦ natural-starts _ _ (λ e. omega arith) (λ h e. omega arith)
  ],
  omega arith,
)

pub returns-then-not-is_ascii_digit : goal.returns-then-not-is_ascii_digit
returns-then-not-is_ascii_digit c =
    simp (c.loop-b.invariant.0 ∙ within-not _ _ _ _ c.loop-b-test.true (sym c.is_ascii_digit.ensures.value ∙ c.if-not-is_ascii_digit.true))

pub returns-then-from-value : goal.returns-then-from-value
returns-then-from-value c =
    let d = sym c.is_ascii_digit.ensures.value ∙ c.if-not-is_ascii_digit.false in
    simp (c.loop-b.invariant.0 ∙ within-next _ _ _ _ c.loop-b-test.true d ∙ within-past _ _ _ (omega arith))

pub loop-b-preserved : goal.loop-b-preserved
loop-b-preserved c =
    let d = sym c.is_ascii_digit.ensures.value ∙ c.if-not-is_ascii_digit.false in
    (rw c.from.ensures (c.loop-b.invariant.0 ∙ within-next _ _ _ _ c.loop-b-test.true d), omega arith)

pub returns : goal.returns
returns c = simp (c.loop-b.invariant.0 ∙ within_end _ _ _ _ c.loop-b-test.false c.loop-b.invariant.1)
