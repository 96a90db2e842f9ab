-- `read_count` meets its contract: a bit, and 5 more behind a 1.
use Rattle.std.proofs.Common.{◌∙◌, arith}
use Rattle.plate.proofs.Readers.{gives-number}
use Rattle.fields.specs.Places.{field_read}
use Rattle.fields.proofs.Exits.{handed-on}
use Rattle.fields.proofs.Onward.{got-good}
use Rattle.reader.proofs.OwnNumber.{count-refused, count_none, count_cut, count-read}
use Rattle.reader.proofs.own.read_count.Goals as goal

pub returns-in_err-bit : goal.returns-in_err-bit
returns-in_err-bit c =
    handed-on (field_read _) c.from_residual.result c.from_residual.ensures.1 ∙ count-refused _ c.in_err-bit.ensures

pub returns-then-bit-eq0 : goal.returns-then-bit-eq0
returns-then-bit-eq0 c = count_none _ c.in_ok-bit.ensures c.if-bit-eq0.true

pub returns-in_err-less : goal.returns-in_err-less
returns-in_err-less c =
    handed-on (field_read _) c.from_residual-in_err-less.result c.from_residual-in_err-less.ensures.1
    ∙ count_cut _ c.in_ok-bit.ensures c.if-bit-eq0.false c.in_err-less.ensures

pub overflow_add-result : goal.overflow_add-result
overflow_add-result c = let small = got-good _ (gives-number 5) c.in_ok-less.ensures in omega (arith, small)

pub returns : goal.returns
returns c = count-read _ c.in_ok-bit.ensures _ c.if-bit-eq0.false c.in_ok-less.ensures
