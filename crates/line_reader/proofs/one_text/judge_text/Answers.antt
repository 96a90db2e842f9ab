-- `judge_text` meets its contract: a text from the place to the end, or a comma that makes one field too many, or a wrong text.
use mathlib.Core.Path.{sym, ◌∙◌}
use Rattle.line_reader.proofs.OneText.{text-none, text-good, text-more, text-bad}
use Rattle.line_reader.proofs.one_text.judge_text.Goals as goal

pub returns-then-s-a : goal.returns-then-s-a
returns-then-s-a c = sym (text-none _ _ c.if-s-a.true)

pub returns-then-is_text : goal.returns-then-is_text
returns-then-is_text c = sym (text-good _ _ c.if-s-a.false (sym c.is_text.ensures ∙ c.if-is_text.true))

pub returns-then-find-s : goal.returns-then-find-s
returns-then-find-s c = sym (text-more _ _ c.if-s-a.false _ c.find.ensures.value c.if-find-s.true)

pub returns-else-find-s : goal.returns-else-find-s
returns-else-find-s c =
    sym (text-bad _ _ c.if-s-a.false _ c.find.ensures.value c.find.ensures.upper_bound c.if-find-s.false (sym c.is_text.ensures ∙ c.if-is_text.false))
