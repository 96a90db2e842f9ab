-- `read_own` meets its contract: the plate's refusal, or what the two passes leave.
use Rattle.std.proofs.Common.{refl, ap, ◌∙◌, arith}
use Rattle.causes.specs.Answers.{written_answer, made, output, lent}
use Rattle.phrases.specs.Phrases.{Phrases}
use Rattle.fields.proofs.Exits.{handed-on}
use Rattle.listing.specs.Listing.{listing_text}
use Rattle.reader.specs.Holding.{program_at}
use Rattle.read_plate.proofs.Whole.{call-plate, call-listing, instructions-fit}
use Rattle.read_plate.proofs.read_own.Goals as goal

pub returns-in_err-contents-clause-listing_after : goal.returns-in_err-contents-clause-listing_after
returns-in_err-contents-clause-listing_after c =
    ap (λ a. (a, c.args.listing.now)) (handed-on written_answer c.from_residual.result c.from_residual.ensures.1)
    ∙ call-plate _ _ _ c.requires.0.phrases c.read_contents.new.own _ c.in_err-contents.ensures.result_after _ refl

pub write-requires : goal.write-requires
write-requires c =
    let read = c.in_ok-contents.ensures in
    let fit = instructions-fit _ _ c.requires.0.phrases _ _ read.result_after _ refl (λ i. omega (arith, c.type_inv.plate i)) in
    rw c.new-known.ensures (read.stands _ refl, fit)

pub returns-clause-listing_after : goal.returns-clause-listing_after
returns-clause-listing_after c =
    let read = c.in_ok-contents.ensures in
    call-listing _ _ _ c.requires.0.phrases _ _ read.result_after _ _ refl
    (c.write.ensures
    ∙ ap (λ (p : Phrases). lent (made (output (listing_text (program_at c.args.plate.now p c.in_ok-contents.contents)))) c.args.listing.now) c.new-known.ensures)
