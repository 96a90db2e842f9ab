-- `translate_with` meets its contract: the refusal of the guide, or what the plate's writer leaves.
use mathlib.Core.Path.{sym, ◌∙◌}
use Rattle.std.proofs.lemmas.Result.{err_from_is_err_and}
use Rattle.check_lines.proofs.Fine.{guide-no-own}
use Rattle.assemble.proofs.Accepted.{few_bytes, accepted-counted}
use Rattle.translate.proofs.Whole.{call-guide, call-translated}
use Rattle.translate.proofs.translate_with.Goals as goal

pub write-requires : goal.write-requires
write-requires c =
    let guide = sym c.check.ensures.value ∙ c.in_ok-counts.was in
    (few_bytes _ _ _ guide, rw (guide-no-own _ _ guide) at (c.check.ensures.by_index _ c.in_ok-counts.was), accepted-counted _ _ _ guide _)

pub returns-in_err-counts : goal.returns-in_err-counts
returns-in_err-counts c =
    let p = err_from_is_err_and c.from_residual.result c.from_residual.ensures.1 in
    rw (p.1, p.2) (call-guide _ _ _ _ c.requires.phrases (sym c.check.ensures.value ∙ c.in_err-counts.was))

pub returns : goal.returns
returns c = call-translated _ _ _ _ _ c.requires.phrases (sym c.check.ensures.value ∙ c.in_ok-counts.was) c.write.ensures
