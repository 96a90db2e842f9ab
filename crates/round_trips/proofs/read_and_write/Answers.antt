-- `read_and_write` meets its contract: the refusal of read_plate, or what write_plate makes of the bytes written.
use Prim.Native.Nat.{ℕ}
use native.Mathlib.Omega.{arith}
use mathlib.Core.Path.{ap, ◌∙◌}
use mathlib.Core.List.{List}
use lib.ListN.{length-take}
use borrow.Author.Rules.{rules}
use Rattle.std.proofs.lemmas.Result.{err_from_is_err_and}
use Rattle.causes.specs.Answers.{Answer}
use Rattle.round_trips.proofs.Calls.{listing-length, written_back, not-read}
use Rattle.round_trips.proofs.read_and_write.Goals as goal

pub slice_bounds-write_plate-end : goal.slice_bounds-write_plate-end
slice_bounds-write_plate-end c =
    listing-length _ _ _ _ _ c.read_plate.ensures _ c.in_ok-length.was

pub slice_bounds-write_plate-end-2 : goal.slice_bounds-write_plate-end-2
slice_bounds-write_plate-end-2 c =
    let l = listing-length _ _ _ _ _ c.read_plate.ensures _ c.in_ok-length.was in
    simp length-take (omega arith)

pub returns-in_err-length : goal.returns-in_err-length
returns-in_err-length c =
    let p = err_from_is_err_and c.from_residual.result c.from_residual.ensures.1 in
    record { again_after = rw (p.1, p.2) (not-read _ _ _ _ _ c.read_plate.ensures _ _ c.in_err-length.was); listing_after = ap (λ (p : Answer × List ℕ). p.1) c.read_plate.ensures }

pub returns : goal.returns
returns c =
    record { again_after = c.write_plate.ensures ∙ written_back _ _ _ _ _ c.read_plate.ensures _ _ (λ i. omega (arith, c.shared_slice_known-1.given i)) c.in_ok-length.was; listing_after = ap (λ (p : Answer × List ℕ). p.1) c.read_plate.ensures }
