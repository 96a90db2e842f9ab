-- `write_with` meets its contract: the listing's refusal, or what the plate's writer leaves.
use mathlib.Core.Path.{sym, ◌∙◌}
use Rattle.std.proofs.lemmas.Result.{err_from_is_err_and}
use Rattle.assemble.proofs.Accepted.{accepted-counted}
use Rattle.write_plate.proofs.Call.{call-listing, call-written}
use Rattle.write_plate.proofs.write_with.Goals as goal

pub write-requires : goal.write-requires
write-requires c =
    (c.check.ensures.by_index _ c.in_ok-counts.was, accepted-counted _ _ _ (sym c.check.ensures.value ∙ c.in_ok-counts.was) _)

pub returns-in_err-counts : goal.returns-in_err-counts
returns-in_err-counts c =
    let p = err_from_is_err_and c.from_residual.result c.from_residual.ensures.1 in
    rw (p.1, p.2) (call-listing _ _ _ c.requires.phrases _ (sym c.check.ensures.value ∙ c.in_err-counts.was))

pub returns : goal.returns
returns c = call-written _ _ _ c.requires.phrases (sym c.check.ensures.value ∙ c.in_ok-counts.was) _ _ c.write.ensures
