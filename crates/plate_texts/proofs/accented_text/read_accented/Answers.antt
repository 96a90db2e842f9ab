-- `read_accented` meets its contract: the bytes up to ETX, judged at their first bit.
use Rattle.std.proofs.Common.{sym, ap, ◌∙◌, length, arith}
use Rattle.plate.specs.Plate.{spelled}
use Rattle.fields.specs.Places.{size_read, until_etx, values_of}
use Rattle.fields.proofs.Exits.{handed-on}
use Rattle.fields.proofs.Copies.{length-characters}
use Rattle.fields.proofs.Onward.{judged-stopped}
use Rattle.plate_characters.proofs.Gathers.{gathered-text}
use Rattle.plate_texts.proofs.Spelled.{sized-few, spelled-got, spelled-not, spelled-sized}
use Rattle.plate_texts.proofs.accented_text.read_accented.Goals as goal
use Rattle.plate_texts.proofs.accented_text.read_accented.Goals.{else-is_sized-via-then-is_sized+else-is_accented, else-is_sized-via-else-is_sized}

pub returns-in_err-field : goal.returns-in_err-field
unfolding spelled
returns-in_err-field c =
    handed-on (size_read _ _ _) c.from_residual.result c.from_residual.ensures.1
    ∙ judged-stopped (until_etx 8) _ _ _ _ c.in_err-field.ensures.result_value

pub slice_bounds-characters-end : goal.slice_bounds-characters-end
slice_bounds-characters-end c =
    let a = c.args in
    let few = sized-few 8 a.plate.now a.at _ _ c.is_sized.ensures c.if-is_sized.true in
    omega (arith, few)

pub slice_bounds-is_accented-end : goal.slice_bounds-is_accented-end
slice_bounds-is_accented-end c =
    let a = c.args in
    let few = sized-few 8 a.plate.now a.at _ _ c.is_sized.ensures c.if-is_sized.true in
    let t = gathered-text 8 _ _ _ _ _ c.in_ok-field.ensures.out_after (omega (arith, few)) in
    sym (ap length t ∙ length-characters 8 _ _)

pub returns-then-is_accented : goal.returns-then-is_accented
returns-then-is_accented c =
    let a = c.args in
    let few = sized-few 8 a.plate.now a.at _ _ c.is_sized.ensures c.if-is_sized.true in
    let t = gathered-text 8 _ _ _ _ _ c.in_ok-field.ensures.out_after (omega (arith, few)) in
    let e = c.in_ok-field.ensures.result_value in
    let n = rw (t ∙ ap values_of e) at c.is_accented.ensures in
    spelled-got 8 _ _ _ _ c.is_sized.ensures _ e c.if-is_sized.true (sym n ∙ c.if-is_accented.true)

pub returns-else-is_sized : goal.returns-else-is_sized
returns-else-is_sized c =
    let a = c.args in
    let e = c.in_ok-field.ensures.result_value in
    elim c.else-is_sized.branch [
      | else-is_sized-via-then-is_sized+else-is_accented w ↦
          let few = sized-few 8 a.plate.now a.at _ _ c.is_sized.ensures w.if-is_sized.true in
          let t = gathered-text 8 _ _ _ _ _ c.in_ok-field.ensures.out_after (omega (arith, few)) in
          let n = rw (t ∙ ap values_of e) at w.is_accented.ensures in
          spelled-not 8 _ _ _ e (sym n ∙ w.if-is_accented.false)
      | else-is_sized-via-else-is_sized w ↦ spelled-sized 8 _ _ _ _ c.is_sized.ensures _ e w.if-is_sized.false
    ]
