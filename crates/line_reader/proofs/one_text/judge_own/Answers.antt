-- `judge_own` meets its contract: a text, then ASCII alone.
use mathlib.Core.Path.{sym, ◌∙◌}
use native.Mathlib.Omega.{arith}
use Rattle.line_reader.proofs.OneText.{text-begins, own-judged}
use Rattle.line_reader.proofs.one_text.judge_own.Goals as goal

pub slice_bounds-is_ascii-count : goal.slice_bounds-is_ascii-count
slice_bounds-is_ascii-count c = text-begins c.args.s.now c.args.a c.in_ok-judge_text.ensures

pub slice_bounds-is_ascii-start : goal.slice_bounds-is_ascii-start
slice_bounds-is_ascii-start c = omega (arith, text-begins c.args.s.now c.args.a c.in_ok-judge_text.ensures)

pub returns-then-not-is_ascii : goal.returns-then-not-is_ascii
returns-then-not-is_ascii c =
    simp (own-judged c.args.s.now c.args.a c.in_ok-judge_text.ensures, sym c.is_ascii.ensures ∙ c.if-not-is_ascii.true)

pub returns : goal.returns
returns c = simp (own-judged c.args.s.now c.args.a c.in_ok-judge_text.ensures, sym c.is_ascii.ensures ∙ c.if-not-is_ascii.false)
