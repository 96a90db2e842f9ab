-- `accepted_if` meets its contract: every field is a part of the bits that were read ahead.
use mathlib.Core.Path.{refl, sym, ap, ◌∙◌}
use native.Mathlib.Omega.{arith}
use Rattle.plate.specs.Plate.{op_of, signed}
use Rattle.plate_constants.proofs.SignedRead.{held}
use Rattle.fields.proofs.Ahead.{part-below}
use Rattle.instructions.proofs.IfFields.{if-short, if-long}
use borrow.Author.Rules.{rules}
use Rattle.instructions.proofs.heads.accepted_if.Goals as goal

pub long_if-requires : goal.long_if-requires
long_if-requires c = (search rules, search rules, part-below 0 16 _ c.part_ahead-first.ensures.0)

pub returns-then-part_ahead-ne0 : goal.returns-then-part_ahead-ne0
returns-then-part_ahead-ne0 c =
    let er = c.long_if.ensures.register_value.0 ∙ c.part_ahead-register.ensures.0 in record {
      next_value = if-long _ _ c.requires.2 c.read_ahead-behind.ensures er (c.long_if.ensures.register_value.1 ∙ c.op_of-op.ensures ∙ ap op_of c.part_ahead.ensures.0)
          (λ z. c.if-part_ahead-ne0.true (c.part_ahead-2.ensures.0 ∙ z)) _ c.part_ahead-first.ensures.0 c.long_if.ensures.register_value.2 c.long_if.ensures.skip_value.0 c.long_if.ensures.skip_value.1;
      register_bound = (part-below 3 5 _ er, part-below 16 9 _ c.long_if.ensures.skip_value.0);
    }

pub short_constant-constant-requires : goal.short_constant-constant-requires
short_constant-constant-requires c = part-below 0 16 _ c.part_ahead-first.ensures.0

pub returns : goal.returns
returns c =
    let ez = held 16 refl (omega arith) _ _ (part-below 0 16 _ c.part_ahead-first.ensures.0) c.short_constant-constant.ensures ∙ ap (signed 16) c.part_ahead-first.ensures.0 in record {
      next_value = if-short _ _ c.requires.2 c.read_ahead-behind.ensures c.part_ahead-register.ensures.0 (c.op_of-op.ensures ∙ ap op_of c.part_ahead.ensures.0)
          (sym c.part_ahead-2.ensures.0 ∙ c.if-part_ahead-ne0.false) ez c.part_ahead-3.ensures.0;
      register_bound = (part-below 3 5 _ c.part_ahead-register.ensures.0, part-below 16 9 _ c.part_ahead-3.ensures.0);
    }
