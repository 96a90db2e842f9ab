-- `lend` meets its contract: 10, 11, or the bytes are copied.
use native.Mathlib.Omega.{arith}
use mathlib.Core.Path.{sym, ◌∙◌}
use lib.Seq.{length-take-le}
use Rattle.std.proofs.lemmas.Result.{err_from_is_err_and}
use Rattle.plate_room.proofs.Plates.{room_fits}
use Rattle.plate_room.proofs.LentPlates.{lent_none, lent-copied}
use Rattle.plate_room.proofs.lent.lend.Goals as goal

pub slice_bounds-copy_from_slice-end : goal.slice_bounds-copy_from_slice-end
slice_bounds-copy_from_slice-end c = (room_fits _ _ (sym c.plate_room.ensures ∙ c.in_ok-length.was)).2

pub slice_bounds-copy_from_slice-end-2 : goal.slice_bounds-copy_from_slice-end-2
slice_bounds-copy_from_slice-end-2 c =
    sym (length-take-le c.in_ok-length.length c.args.plate.now (room_fits _ _ (sym c.plate_room.ensures ∙ c.in_ok-length.was)).2)

pub shared_ref_as_front-copy_from_slice : goal.shared_ref_as_front-copy_from_slice
shared_ref_as_front-copy_from_slice c = (room_fits _ _ (sym c.plate_room.ensures ∙ c.in_ok-length.was)).1

pub copy_from_slice-requires : goal.copy_from_slice-requires
copy_from_slice-requires c =
    let fits = room_fits _ _ (sym c.plate_room.ensures ∙ c.in_ok-length.was) in
    length-take-le c.in_ok-length.length c.args.plate.now fits.2 ∙ sym (length-take-le c.in_ok-length.length c.args.array.now (omega (arith, fits.1, c.told-array)))

pub returns-in_err-length : goal.returns-in_err-length
returns-in_err-length c =
    let p = err_from_is_err_and c.from_residual.result c.from_residual.ensures.1 in
    rw (p.1, p.2) (lent_none _ _ _ (sym c.plate_room.ensures ∙ c.in_err-length.was))

pub returns : goal.returns
returns c =
    lent-copied _ _ _ (sym c.plate_room.ensures ∙ c.in_ok-length.was) c.told-array c.fits-array _ c.copy_from_slice.ensures.after
