-- `are_letters` meets its contract: what is due and the bytes left are well-formed where the whole is.
use Rattle.std.proofs.Common.{refl, sym, ◌∙◌}
use Rattle.text.specs.Utf8.{well_formed}
use Rattle.utf8.specs.Due.{due_of}
use Rattle.utf8.proofs.Steps.{step_end, at-end}
use Rattle.utf8.proofs.are_letters.Goals as goal

pub loop-b-init : goal.loop-b-init
unfolding well_formed
loop-b-init c = refl

pub returns : goal.returns
returns c = let due = c.loop-b.due in sym (sym c.loop-b.invariant ∙ at-end _ _ (due_of due) c.loop-b-test.false ∙ step_end due.count due.least due.most)
