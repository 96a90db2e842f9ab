-- `pass_phrase` meets its contract: the source, and the place there.
use Rattle.std.proofs.Common.{ap, ◌∙◌, ◌+◌, length, Ok, Err, arith}
use Rattle.output.specs.Pour.{up_to}
use Rattle.phrase_lookup.specs.Found.{phrase_at}
use Rattle.fields.specs.Places.{measured, field_read}
use Rattle.fields.proofs.Exits.{handed-on}
use Rattle.plate_texts.proofs.Ended.{measured-is}
use Rattle.plate_texts.proofs.SourceRead.{source-near}
use Rattle.plate_texts.proofs.PhraseRead.{source-alike, source-stopped, source-good, place-good, phrase-read}
use Rattle.plate_texts.proofs.phrase_place.pass_phrase.Goals as goal

pub returns-in_err-source : goal.returns-in_err-source
returns-in_err-source c =
    let a = c.args in
    let e = c.in_err-source.ensures ∙ source-alike a.known.now a.plate.now a.at c.book_count.ensures.value c.own_count.ensures.value in
    handed-on (field_read _) c.from_residual.result c.from_residual.ensures.1
    ∙ ap (measured (λ t. up_to (a.front + length t))) (source-stopped _ _ _ e)

pub read_place-requires : goal.read_place-requires
read_place-requires c =
    let a = c.args in
    let e = c.in_ok-source.ensures ∙ source-alike a.known.now a.plate.now a.at c.book_count.ensures.value c.own_count.ensures.value in
    let near = source-near _ _ _ _ _ _ e in
    let good = source-good _ _ _ _ _ _ e c.requires.1 (omega arith) (omega arith) in
    (c.requires.0, c.requires.2, omega (arith, near), near, good.few)

pub returns-in_err-place : goal.returns-in_err-place
returns-in_err-place c =
    let a = c.args in
    let e = c.in_ok-source.ensures ∙ source-alike a.known.now a.plate.now a.at c.book_count.ensures.value c.own_count.ensures.value in
    let good = source-good _ _ _ _ _ _ e c.requires.1 (omega arith) (omega arith) in
    handed-on (field_read _) c.from_residual-in_err-place.result c.from_residual-in_err-place.ensures.1
    ∙ ap (measured (λ t. up_to (a.front + length t)))
    (phrase-read _ _ _ _ _ _ e good (Err c.in_err-place.field-0.0) c.in_err-place.ensures)

pub text-text-requires : goal.text-text-requires
text-text-requires c =
    let a = c.args in
    let e = c.in_ok-source.ensures ∙ source-alike a.known.now a.plate.now a.at c.book_count.ensures.value c.own_count.ensures.value in
    let good = source-good _ _ _ _ _ _ e c.requires.1 (omega arith) (omega arith) in
    rw c.found_in.ensures (place-good _ _ _ _ _ _ e good _ _ c.in_ok-place.ensures)

pub returns : goal.returns
returns c =
    let a = c.args in
    let e = c.in_ok-source.ensures ∙ source-alike a.known.now a.plate.now a.at c.book_count.ensures.value c.own_count.ensures.value in
    let good = source-good _ _ _ _ _ _ e c.requires.1 (omega arith) (omega arith) in
    measured-is (λ t. up_to (a.front + length t)) _
    (c.sum.ensures ∙ ap (λ t. up_to (a.front + length t)) (c.text-text.ensures ∙ ap (phrase_at a.known.now) c.found_in.ensures))
    (phrase-read _ _ _ _ _ _ e good (Ok c.in_ok-place.field-0) c.in_ok-place.ensures)
