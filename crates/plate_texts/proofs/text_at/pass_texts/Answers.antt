-- `pass_texts` meets its contract. The loop's invariant: what is left ends where all of it ends.
use Rattle.std.proofs.Common.{refl, ◌≡◌, ◌∙◌, ◌+◌, ◌-◌, ◌<◌, length, length-append, arith}
use Rattle.output.specs.Pour.{up_to}
use Rattle.transcript.specs.Offered.{options_bytes}
use Rattle.fields.specs.Places.{field_read}
use Rattle.fields.proofs.Exits.{handed-on}
use Rattle.plate_texts.proofs.Ended.{measured-some, measured-stopped}
use Rattle.plate_texts.proofs.TextsRead.{passing-start, passing-more, passing-stopped, passing-end}
use Rattle.plate_texts.proofs.text_at.pass_texts.Goals as goal

pub loop-init : goal.loop-init
loop-init c =
    let all : c.args.n - 0 ≡ c.args.n = omega arith in
    rw all (passing-start _ _ _ _ _ (λ ts. refl), omega arith)

pub returns-in_err-text : goal.returns-in_err-text
returns-in_err-text c =
    handed-on (field_read _) c.from_residual.result c.from_residual.ensures.1
    ∙ passing-stopped _ _ c.loop.invariant.0 (omega arith) (measured-stopped _ _ c.in_err-text.ensures)

pub loop-preserved : goal.loop-preserved
unfolding options_bytes
loop-preserved c =
    let more : 0 < c.args.n - c.loop.counter = omega arith in
    let less : c.args.n - c.loop.counter - 1 ≡ c.args.n - (c.loop.counter + 1) = omega arith in
    let t = measured-some _ _ _ _ c.in_ok-text.ensures in (
      rw less at (passing-more _ _ c.loop.invariant.0 _ _ (λ ts. up_to (c.in_ok-text.text.value + length (options_bytes ts))) more t.1 (λ ts. simp length-append (omega (arith, t.2)))),
      omega arith,
    )

pub returns : goal.returns
unfolding options_bytes
returns c = passing-end _ (c.args.n - c.loop.counter) c.loop.invariant.0 (omega arith) (omega arith)
