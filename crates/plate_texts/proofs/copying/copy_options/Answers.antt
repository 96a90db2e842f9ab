-- `copy_options` meets its contract: the number, which is good where the options are, then so many texts.
use mathlib.Core.Path.{◌∙◌}
use native.Mathlib.Omega.{arith}
use borrow.Author.Rules.{rules}
use Rattle.plate.specs.Plate as reader
use Rattle.plate.proofs.Readers.{gives-number}
use Rattle.fields.proofs.Onward.{then-stopped, got-good}
use Rattle.plate_texts.proofs.Known.{known_same}
use Rattle.plate_texts.proofs.OptionsRead.{options-read, options-number}
use Rattle.plate_texts.proofs.CopiedTexts.{options-alike}
use Rattle.plate_texts.proofs.copying.copy_options.Goals as goal

pub returns-in_default : goal.returns-in_default
unfolding reader.options
returns-in_default c = absurd (c.requires.1.good (then-stopped _ _ _ (c.in_default.ensures ∙ options-number _ _ _ c.requires.1)))

pub overflow_add-options : goal.overflow_add-options
overflow_add-options c = let few = got-good _ (gives-number 3) (c.in-Ok.ensures) in omega (arith, few)

pub copy_texts-copied-requires : goal.copy_texts-copied-requires
copy_texts-copied-requires c = let k = c.in-Ok.ensures ∙ options-number _ _ _ c.requires.1 in
    (search rules, known_same (options-read _ _ _ _ k) c.requires.1)

pub returns : goal.returns
returns c = let k = c.in-Ok.ensures ∙ options-number _ _ _ c.requires.1 in
    record { out_after = (options-alike _ _ _ _ _ (options-read _ _ _ _ k) (c.copy_texts-copied.ensures.out_after, c.copy_texts-copied.ensures.next_value)).0; next_value = (options-alike _ _ _ _ _ (options-read _ _ _ _ k) (c.copy_texts-copied.ensures.out_after, c.copy_texts-copied.ensures.next_value)).1 }
