-- `write_and_read` meets its contract: the refusal of write_plate, or what read_plate makes of the bytes written.
use Prim.Native.Nat.{ℕ}
use native.Mathlib.Omega.{arith}
use mathlib.Core.Path.{ap, ◌∙◌}
use mathlib.Core.List.{List}
use lib.ListN.{length-take}
use borrow.Author.Rules.{rules}
use Rattle.std.proofs.lemmas.Result.{err_from_is_err_and}
use Rattle.causes.specs.Answers.{Answer}
use Rattle.round_trips.proofs.Calls.{plate-length, read_back, not_written}
use Rattle.round_trips.proofs.write_and_read.Goals as goal

pub slice_bounds-read_plate-end : goal.slice_bounds-read_plate-end
slice_bounds-read_plate-end c =
    plate-length _ _ _ _ _ c.write_plate.ensures _ c.in_ok-length.was

pub slice_bounds-read_plate-end-2 : goal.slice_bounds-read_plate-end-2
slice_bounds-read_plate-end-2 c =
    let l = plate-length _ _ _ _ _ c.write_plate.ensures _ c.in_ok-length.was in
    simp length-take (omega arith)

pub returns-in_err-length : goal.returns-in_err-length
returns-in_err-length c =
    let p = err_from_is_err_and c.from_residual.result c.from_residual.ensures.1 in
    record { again_after = rw (p.1, p.2) (not_written _ _ _ _ _ c.write_plate.ensures _ _ c.in_err-length.was); plate_after = ap (λ (p : Answer × List ℕ). p.1) c.write_plate.ensures }

pub returns : goal.returns
returns c =
    record { again_after = c.read_plate.ensures ∙ read_back _ _ _ _ _ c.write_plate.ensures _ _ c.in_ok-length.was; plate_after = ap (λ (p : Answer × List ℕ). p.1) c.write_plate.ensures }
