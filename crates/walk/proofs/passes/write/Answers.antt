-- `write` meets its contract: the whole transcript where the buffer is surely long enough; else 11 where it is too short, and else the whole.
use native.Mathlib.Omega.{arith}
use Rattle.machine.proofs.Passes.{too_short}
use Rattle.walk.proofs.Counted.{few-counted, counted-size, counted-clean}
use Rattle.walk.proofs.Rooms.{text-fits, text-ends, text-written}
use Rattle.walk.proofs.passes.write.Goals as goal

pub overflow_mul-guide : goal.overflow_mul-guide
overflow_mul-guide c = omega (arith, counted-size _ _ c.requires)

pub overflow_add-guide : goal.overflow_add-guide
overflow_add-guide c = omega (arith, counted-size _ _ c.requires)

pub overflow_mul-instructions : goal.overflow_mul-instructions
overflow_mul-instructions c = omega (arith, few-counted _ _ c.requires)

pub overflow_add-transcript : goal.overflow_add-transcript
overflow_add-transcript c = omega (arith, few-counted _ _ c.requires)

pub produce-requires : goal.produce-requires
produce-requires c = (counted-size _ _ c.requires, counted-clean _ _ c.requires)

pub returns-then-guide-answers : goal.returns-then-guide-answers
returns-then-guide-answers c =
    text-written _ _ _ _ _ _ c.produce.ensures.1 _ c.report_of.ensures
    (text-fits _ _ _ _ _ _ c.produce.ensures.1 _ c.requires c.see_answers.ensures (omega arith))
    (omega arith)

pub produce-length-requires : goal.produce-length-requires
produce-length-requires c = (counted-size _ _ c.requires, counted-clean _ _ c.requires)

pub returns-then-transcript-length : goal.returns-then-transcript-length
returns-then-transcript-length c = too_short _ _ _ _ _ _ c.produce-length.ensures.1 _ (omega arith)

pub produce-requires-2 : goal.produce-requires-2
produce-requires-2 c = (counted-size _ _ c.requires, counted-clean _ _ c.requires)

pub returns : goal.returns
returns c =
    let e = text-ends _ _ _ _ _ _ c.produce-2.ensures.1 _ _ _ _ c.produce-length.ensures.1 in
    text-written _ _ _ _ _ _ c.produce-2.ensures.1 _ c.report_of-2.ensures (omega arith) (omega arith)
