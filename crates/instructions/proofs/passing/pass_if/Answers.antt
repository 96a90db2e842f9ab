-- `pass_if` meets its contract: the test, then the skip.
use Rattle.std.proofs.Common.{ap, ◌∙◌}
use Rattle.plate.specs.Reading.{return}
use Rattle.fields.specs.Places.{field_read, measured}
use Rattle.fields.proofs.Exits.{handed-on}
use Rattle.fields.proofs.Onward.{then-got, then-stopped}
use Rattle.instructions.proofs.FieldsRead.{room_of}
use Rattle.instructions.proofs.passing.pass_if.Goals as goal

pub returns-in_err-test : goal.returns-in_err-test
returns-in_err-test c = λ p.
    handed-on (field_read _) c.from_residual.result c.from_residual.ensures.1
    ∙ ap (measured room_of) (then-stopped _ _ _ c.in_err-test.ensures)

pub returns-in_err-skip : goal.returns-in_err-skip
returns-in_err-skip c = λ p.
    handed-on (field_read _) c.from_residual-in_err-skip.result c.from_residual-in_err-skip.ensures.1
    ∙ ap (measured room_of) (then-stopped _ _ _ c.in_err-skip.ensures ∙ then-got _ _ _ c.in_ok-test.ensures)

pub returns : goal.returns
unfolding return
returns c = λ p. ap (measured room_of) (then-got _ _ _ c.in_ok-skip.ensures ∙ then-got _ _ _ c.in_ok-test.ensures)
