-- `front` meets its contract: with n or fewer answers, the first n are all.
use mathlib.Core.Path.{sym}
use lib.Seq.{length-take-le, take_all}
use borrow.Author.Rules.{rules}
use Rattle.agreement.proofs.more.front.Goals as goal

pub slice_bounds-result-end : goal.slice_bounds-result-end
slice_bounds-result-end c = sym (length-take-le _ _ (search rules))

pub returns : goal.returns
returns c = sym (take_all _ _ c.if-n-answers.false)
