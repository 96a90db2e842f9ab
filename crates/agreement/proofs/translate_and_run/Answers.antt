-- `translate_and_run` meets its contract: the refusal of translate, or what run makes of the bytes written.
use Prim.Native.Nat.{ℕ}
use native.Mathlib.Omega.{arith}
use mathlib.Core.Path.{refl, ap, ◌∙◌}
use mathlib.Core.List.{List}
use lib.ListN.{length-take}
use borrow.Author.Rules.{rules}
use Rattle.std.proofs.lemmas.Result.{err_from_is_err_and}
use Rattle.causes.specs.Answers.{Answer}
use Rattle.agreement.proofs.Composed.{plate-length, run-after, not-translated, agrees_after}
use Rattle.agreement.proofs.translate_and_run.Goals as goal

pub slice_bounds-run-end : goal.slice_bounds-run-end
slice_bounds-run-end c =
    let l = plate-length _ _ _ _ _ c.translate.ensures _ c.in_ok-length.was in
    omega arith

pub slice_bounds-run-end-2 : goal.slice_bounds-run-end-2
slice_bounds-run-end-2 c =
    let l = plate-length _ _ _ _ _ c.translate.ensures _ c.in_ok-length.was in
    simp length-take (omega arith)

pub returns-in_err-length : goal.returns-in_err-length
returns-in_err-length c =
    let p = err_from_is_err_and c.from_residual.result c.from_residual.ensures.1 in
    record { transcript_after = rw (p.1, p.2) (not-translated _ _ _ _ _ c.translate.ensures _ _ _ _ c.in_err-length.was); plate_after = ap (λ (p : Answer × List ℕ). p.1) c.translate.ensures; by_index = agrees_after _ _ _ _ c.translate.result c.translate.ensures _ _ _; scratch_unchanged = refl }

pub returns : goal.returns
returns c =
    record { transcript_after = c.run.ensures.transcript_after ∙ run-after _ _ _ _ _ c.translate.ensures _ _ _ _ c.in_ok-length.was; plate_after = ap (λ (p : Answer × List ℕ). p.1) c.translate.ensures; by_index = agrees_after _ _ _ _ c.translate.result c.translate.ensures _ _ _; scratch_unchanged = c.run.ensures.scratch_unchanged }
