-- `is_new_at` meets its contract: the lookup of the copied characters.
use mathlib.Core.Path.{sym, ap, ◌∙◌}
use native.Mathlib.Omega.{arith}
use lib.ListN.{length}
use Rattle.fields.proofs.Copies.{copied-text}
use Rattle.plate_texts.proofs.spelled_text.is_new_at.Goals as goal

pub slice_bounds-is_new-end : goal.slice_bounds-is_new-end
slice_bounds-is_new-end c = let t = copied-text c.args.size _ _ _ _ c.requires.2 (omega arith) c.copy_each.ensures.out_after in
    c.requires.2 ∙ sym (ap length t)

pub returns : goal.returns
returns c = let t = copied-text c.args.size _ _ _ _ c.requires.2 (omega arith) c.copy_each.ensures.out_after in
    rw t at c.is_new.ensures
