-- `read_spelled` meets its contract: the characters up to ETX, judged at their first bit.
use Rattle.std.proofs.Common.{sym, ap, ◌∙◌, length}
use Rattle.plate.specs.Plate.{spelled}
use Rattle.fields.specs.Places.{size_read, until_etx, values_of}
use Rattle.fields.proofs.Exits.{handed-on}
use Rattle.fields.proofs.Copies.{length-characters}
use Rattle.fields.proofs.Onward.{judged-stopped}
use Rattle.plate_characters.proofs.TextCopy.{got-known}
use Rattle.plate_texts.proofs.Spelled.{sized-few, spelled-got, spelled-sized, spelled-not}
use Rattle.plate_texts.proofs.spelled_text.read_spelled.Goals as goal
use Rattle.plate_texts.proofs.spelled_text.read_spelled.Goals.{else-is_sized-via-then-is_sized+else-is_no_phrase, else-is_sized-via-else-is_sized}

pub returns-in_err-field : goal.returns-in_err-field
unfolding spelled
returns-in_err-field c =
    handed-on (size_read _ _ _) c.from_residual.result c.from_residual.ensures.1
    ∙ judged-stopped (until_etx 7) _ _ _ _ c.in_err-field.ensures

pub is_no_phrase-requires : goal.is_no_phrase-requires
is_no_phrase-requires c =
    let e = c.in_ok-field.ensures in
    (c.requires, got-known e, sym (length-characters 7 _ _) ∙ ap (λ m. length (values_of m)) e, sized-few 7 c.args.plate.now c.args.at _ _ c.is_sized.ensures c.if-is_sized.true)

pub returns-then-is_no_phrase : goal.returns-then-is_no_phrase
returns-then-is_no_phrase c =
    spelled-got 7 _ _ _ _ c.is_sized.ensures _ c.in_ok-field.ensures
    c.if-is_sized.true (sym c.is_no_phrase.ensures ∙ c.if-is_no_phrase.true)

pub returns-else-is_sized : goal.returns-else-is_sized
returns-else-is_sized c =
    let e = c.in_ok-field.ensures in
    elim c.else-is_sized.branch [
      | else-is_sized-via-then-is_sized+else-is_no_phrase w ↦ spelled-not 7 _ _ _ e (sym w.is_no_phrase.ensures ∙ w.if-is_no_phrase.false)
      | else-is_sized-via-else-is_sized w ↦ spelled-sized 7 _ _ _ _ c.is_sized.ensures _ e w.if-is_sized.false
    ]
