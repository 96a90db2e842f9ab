-- `pass_text` meets its contract: the code, then characters of 7 or 8 bits, or a phrase.
use Rattle.std.proofs.Common.{sym, ap, ◌∙◌, ◌+◌, length, arith}
use Rattle.output.specs.Pour.{up_to}
use Rattle.fields.specs.Places.{field_read, measured}
use Rattle.plate.specs.Plate.{phrase}
use Rattle.plate.specs.Plate as reader
use Rattle.fields.proofs.Exits.{handed-on}
use Rattle.fields.proofs.Onward.{then-got, then-stopped}
use Rattle.plate_texts.proofs.Ended.{measured-behind}
use Rattle.plate_texts.proofs.NumberEnds.{judged-behind, judged-room}
use Rattle.plate_texts.proofs.TextsRead.{text-code, some-phrase, by-spelled, by-accented, by-phrase}
use Rattle.plate_texts.proofs.text_at.pass_text.Goals as goal

pub returns-in_err-code : goal.returns-in_err-code
unfolding reader.text
returns-in_err-code c =
    let a = c.args in
    let code = c.in_err-code.ensures ∙ text-code a.known.now _ _ _ c.count.ensures in
    handed-on (field_read _) c.from_residual.result c.from_residual.ensures.1
    ∙ ap (measured (λ t. up_to (a.front + length t))) (then-stopped _ _ _ code)

pub returns-in_err-text-in-0 : goal.returns-in_err-text-in-0
unfolding reader.text
returns-in_err-text-in-0 c =
    let a = c.args in
    let code = c.in_ok-code.ensures ∙ text-code a.known.now _ _ _ c.count.ensures in
    handed-on (field_read _) c.from_residual-in_err-text-in-0.result c.from_residual-in_err-text-in-0.ensures.1
    ∙ ap (measured (λ t. up_to (a.front + length t))) (c.in_err-text-in-0.ensures ∙ by-spelled _ _ _ c.in-0.is ∙ then-got _ _ _ code)

pub returns-in_ok-text-in-0 : goal.returns-in_ok-text-in-0
unfolding reader.text
returns-in_ok-text-in-0 c =
    let a = c.args in
    let code = c.in_ok-code.ensures ∙ text-code a.known.now _ _ _ c.count.ensures in
    measured-behind 7 _ _ _ _ c.behind.ensures (c.in_ok-text-in-0.ensures ∙ by-spelled _ _ _ c.in-0.is ∙ then-got _ _ _ code)

pub returns-in_err-text-in-1 : goal.returns-in_err-text-in-1
unfolding reader.text
returns-in_err-text-in-1 c =
    let a = c.args in
    let code = c.in_ok-code.ensures ∙ text-code a.known.now _ _ _ c.count.ensures in
    handed-on (field_read _) c.from_residual-in_err-text-in-1.result c.from_residual-in_err-text-in-1.ensures.1
    ∙ ap (measured (λ t. up_to (a.front + length t))) (c.in_err-text-in-1.ensures ∙ by-accented _ _ _ c.in-1.is ∙ then-got _ _ _ code)

pub returns-in_ok-text-in-1 : goal.returns-in_ok-text-in-1
unfolding reader.text
returns-in_ok-text-in-1 c =
    let a = c.args in
    let code = c.in_ok-code.ensures ∙ text-code a.known.now _ _ _ c.count.ensures in
    measured-behind 8 _ _ _ _ c.behind-in-1.ensures (c.in_ok-text-in-1.ensures ∙ by-accented _ _ _ c.in-1.is ∙ then-got _ _ _ code)

pub pass_phrase-requires : goal.pass_phrase-requires
pass_phrase-requires c =
    let code = c.in_ok-code.ensures in
    let some = some-phrase _ _ _ _ code (omega arith) (omega arith) in
    (c.requires, omega (arith, some, c.count.ensures), c.read_ahead-ahead.ensures, omega (arith, judged-room _ _ _ _ _ _ _ code))

pub returns-in_default : goal.returns-in_default
unfolding reader.text
returns-in_default c =
    let a = c.args in
    let code = c.in_ok-code.ensures ∙ text-code a.known.now _ _ _ c.count.ensures in
    c.pass_phrase.ensures
    ∙ ap (measured (λ t. up_to (a.front + length t)))
    (ap (phrase _ _) (sym (judged-behind _ _ _ _ _ _ _ code)) ∙ by-phrase _ _ _ (omega arith) (omega arith) ∙ then-got _ _ _ code)
