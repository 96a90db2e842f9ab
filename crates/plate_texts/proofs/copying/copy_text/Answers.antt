-- `copy_text` meets its contract: the text is no refusal, and is its characters or its phrase.
use Rattle.std.proofs.Common.{◌∙◌, arith}
use Rattle.plate.specs.Plate.{spelled}
use Rattle.plate.specs.Plate as reader
use Rattle.fields.specs.Places.{until_etx}
use Rattle.fields.proofs.Onward.{then-got}
use Rattle.plate_texts.proofs.TextsRead.{code-ahead, code-room, known-phrase, by-spelled, by-accented, by-phrase}
use Rattle.plate_texts.proofs.Known.{known_same, known-then, known-judged}
use Rattle.plate_texts.proofs.CopiedTexts.{copied-alike}
use Rattle.plate_texts.proofs.copying.copy_text.Goals as goal

pub overflow_add-at : goal.overflow_add-at
overflow_add-at c = omega (arith, code-room _ _ _ c.requires.1, c.requires.0)

pub copy_characters-requires : goal.copy_characters-requires
unfolding reader.text spelled
copy_characters-requires c =
    let code = code-ahead _ _ _ c.requires.1 _ _ c.read_ahead-ahead.ensures c.part_ahead.ensures.0 in
    let w = known_same (by-spelled _ _ _ c.in-0.is) (known-then _ _ _ c.requires.1 code) in
    (c.requires.0, known_same (known-judged (until_etx 7) _ _ _ _ w) w)

pub returns-in-0 : goal.returns-in-0
unfolding reader.text spelled
returns-in-0 c =
    let code = code-ahead _ _ _ c.requires.1 _ _ c.read_ahead-ahead.ensures c.part_ahead.ensures.0 in
    let w = known_same (by-spelled _ _ _ c.in-0.is) (known-then _ _ _ c.requires.1 code) in
    let all = known-judged (until_etx 7) _ _ _ _ w ∙ by-spelled _ _ _ c.in-0.is ∙ then-got _ _ _ code in
    let copied = copied-alike _ _ all (c.copy_characters.ensures.out_after, c.copy_characters.ensures.next_value) in
    record { out_after = copied.0; next_value = copied.1 }

pub overflow_add-at-in-1 : goal.overflow_add-at-in-1
overflow_add-at-in-1 c = omega (arith, code-room _ _ _ c.requires.1, c.requires.0)

pub copy_each-requires : goal.copy_each-requires
unfolding reader.text spelled
copy_each-requires c =
    let code = code-ahead _ _ _ c.requires.1 _ _ c.read_ahead-ahead.ensures c.part_ahead.ensures.0 in
    let w = known_same (by-accented _ _ _ c.in-1.is) (known-then _ _ _ c.requires.1 code) in
    (omega arith, omega arith, c.requires.0, known_same (known-judged (until_etx 8) _ _ _ _ w) w)

pub returns-in-1 : goal.returns-in-1
unfolding reader.text spelled
returns-in-1 c =
    let code = code-ahead _ _ _ c.requires.1 _ _ c.read_ahead-ahead.ensures c.part_ahead.ensures.0 in
    let w = known_same (by-accented _ _ _ c.in-1.is) (known-then _ _ _ c.requires.1 code) in
    let all = known-judged (until_etx 8) _ _ _ _ w ∙ by-accented _ _ _ c.in-1.is ∙ then-got _ _ _ code in
    let copied = copied-alike _ _ all (c.copy_each.ensures.out_after, c.copy_each.ensures.next_value) in
    record { out_after = copied.0; next_value = copied.1 }

pub copy_phrase-requires : goal.copy_phrase-requires
unfolding reader.text
copy_phrase-requires c =
    let code = code-ahead _ _ _ c.requires.1 _ _ c.read_ahead-ahead.ensures c.part_ahead.ensures.0 in
    let some = known-phrase _ _ _ _ _ code (omega arith) (omega arith) in
    (c.requires.0, some, c.read_ahead-ahead.ensures, code-room _ _ _ c.requires.1, known_same (by-phrase _ _ _ (omega arith) (omega arith)) (known-then _ _ _ c.requires.1 code))

pub returns-in_default : goal.returns-in_default
unfolding reader.text
returns-in_default c =
    let code = code-ahead _ _ _ c.requires.1 _ _ c.read_ahead-ahead.ensures c.part_ahead.ensures.0 in
    let copied = copied-alike _ _ (by-phrase _ _ _ (omega arith) (omega arith) ∙ then-got _ _ _ code) (c.copy_phrase.ensures.out_after, c.copy_phrase.ensures.next_value) in
    record { out_after = copied.0; next_value = copied.1 }
