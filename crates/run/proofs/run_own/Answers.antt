-- `run_own` meets its contract: the plate's refusal, short scratch, or what the two passes leave.
use Rattle.std.proofs.lemmas.Result.{err_from_is_err_and}
use Rattle.run.proofs.Called.{call-plate, call-scratch, call-run}
use Rattle.run.proofs.run_own.Goals as goal

pub returns-in_err-contents-clause-transcript_after : goal.returns-in_err-contents-clause-transcript_after
returns-in_err-contents-clause-transcript_after c =
    let p = err_from_is_err_and c.from_residual.result c.from_residual.ensures.1 in
    rw (p.1, p.2) (call-plate _ _ _ c.requires.0.phrases _ c.read_contents.ensures.result_after _ _ _ _ c.in_err-contents.was)

pub returns-then-scratch-lt-SCRATCH_NUMBERS-clause-transcript_after : goal.returns-then-scratch-lt-SCRATCH_NUMBERS-clause-transcript_after
returns-then-scratch-lt-SCRATCH_NUMBERS-clause-transcript_after c =
    call-scratch _ _ _ c.requires.0.phrases _ c.read_contents.ensures.result_after _ _ _ _ c.in_ok-contents.was c.if-scratch-lt-SCRATCH_NUMBERS.true

pub new-known-requires : goal.new-known-requires
new-known-requires c = c.read_contents.ensures.listed _ c.in_ok-contents.was

pub write-requires : goal.write-requires
write-requires c = rw c.new-known.ensures (c.read_contents.ensures.stands _ c.in_ok-contents.was)

pub returns-clause-transcript_after : goal.returns-clause-transcript_after
returns-clause-transcript_after c =
    call-run _ _ _ c.requires.0.phrases _ c.read_contents.ensures.result_after _ _ _ _ _ c.in_ok-contents.was c.if-scratch-lt-SCRATCH_NUMBERS.false
    (rw c.new-known.ensures at c.write.ensures)
