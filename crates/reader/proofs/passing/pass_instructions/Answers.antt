-- `pass_instructions` meets its contract. The loop's invariant: what is left ends where all of it ends.
use Rattle.std.proofs.Common.{◌∙◌, arith}
use Rattle.fields.specs.Places.{field_read}
use Rattle.fields.proofs.Exits.{handed-on}
use Rattle.plate_texts.proofs.Ended.{measured-some, measured-stopped}
use Rattle.plate_texts.proofs.TextsRead.{passing-start, passing-more, passing-stopped, passing-end}
use Rattle.reader.proofs.passing.pass_instructions.Goals as goal

pub loop-behind-init : goal.loop-behind-init
loop-behind-init c = (passing-start _ _ _ _ _ (λ is. omega arith), omega arith)

pub returns-in_err-read : goal.returns-in_err-read
returns-in_err-read c =
    handed-on (field_read _) c.from_residual.result c.from_residual.ensures.1
    ∙ passing-stopped _ _ c.loop-behind.invariant.0 (omega arith) (measured-stopped _ _ c.in_err-read.ensures)

pub loop-behind-preserved : goal.loop-behind-preserved
loop-behind-preserved c =
    let t = measured-some _ _ _ _ c.in_ok-read.ensures in (
      passing-more _ _ c.loop-behind.invariant.0 _ _ _ (omega arith) t.1 (λ is. omega (arith, t.2)),
      omega arith,
    )

pub returns : goal.returns
returns c = passing-end _ c.loop-behind.behind c.loop-behind.invariant.0 (omega arith) (omega arith)
