-- `run_and_go_on` meets its contract: two calls of run, and the law on them.
use mathlib.Core.Path.{◌∙◌}
use Rattle.agreement.proofs.Lengthened.{runs-lengthen}
use borrow.Author.Rules.{rules}
use Rattle.agreement.proofs.more.run_and_go_on.Goals as goal

pub returns : goal.returns
returns c =
    let args = c.args in
    let short = rw c.front.ensures at c.run-short.ensures.transcript_after in
    let long = rw c.run-short.ensures.scratch_unchanged at c.run-long.ensures.transcript_after in
    record { first_after = short; all_after = long; calls_lengthen = runs-lengthen _ _ _ args.n _ args.first.now _ _ _ short long; scratch_unchanged = c.run-long.ensures.scratch_unchanged ∙ c.run-short.ensures.scratch_unchanged }
