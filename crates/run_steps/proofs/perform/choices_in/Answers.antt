-- `choices_in` meets its contract: the question, its options and the end of the line, each where the one before ended.
use mathlib.Core.Path.{refl, ◌∙◌}
use native.Mathlib.Omega.{arith}
use Rattle.output.proofs.Pour.{then}
use Rattle.transcript.proofs.Offers.{write-offered}
use Rattle.instructions.specs.declared.Head.TheVariants.{Inputs}
use Rattle.instructions.proofs.Counted.{options-end, options-count}
use Rattle.instructions.proofs.Headed.{inputs-text, inputs-options, inputs-is, inputs_end}
use Rattle.run_steps.proofs.Performing.{choices-line, offers}
use borrow.Author.Rules.{rules}
use Rattle.run_steps.proofs.perform.choices_in.Goals as goal

pub copy_text-text-requires : goal.copy_text-text-requires
copy_text-text-requires c = (search rules, inputs-text _ _ (Inputs _ _) refl c.requires.1 refl)

pub copy_options-options-requires : goal.copy_options-options-requires
copy_options-options-requires c = (search rules, inputs-options _ _ (Inputs _ _) refl c.requires.1 refl c.copy_text-text.ensures.next_value)

pub returns : goal.returns
returns c =
    let is = inputs-is _ _ (Inputs _ _) refl c.requires.1 refl c.copy_text-text.ensures.next_value in
    let question = then _ _ _ _ _ _ _ c.begin-text_at.ensures c.copy_text-text.ensures.out_after (omega (arith, c.well_formed)) in
    let line = write-offered _ _ _ _ _ _ _ _ _ question c.copy_options-options.ensures.out_after c.end-end.ensures (omega (arith, c.well_formed)) in
    record { tail_after = choices-line is _ _ _ line; offers = offers is _ (options-count _ _ c.copy_options-options.ensures.next_value); next_value = options-end _ _ c.copy_options-options.ensures.next_value ∙ inputs_end _ _ (Inputs _ _) refl refl c.copy_text-text.ensures.next_value }
