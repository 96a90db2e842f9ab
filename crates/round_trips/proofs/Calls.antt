-- The two calls, one on the bytes that the other wrote: the text itself again, or the first refusal.
use Prim.Native.Nat.{ℕ, ◌≤◌}
use mathlib.Core.Path.{◌≡◌, sym}
use mathlib.Core.List.{List}
use lib.ListN.{length, take}
use Rattle.causes.specs.Answers.{refusing, wrote, written_answer}
use Rattle.causes.specs.declared.Refusal.{Refusal}
use Rattle.std.specs.Prelude.{Result, Ok, Err}
use Rattle.causes.proofs.Lent.{written-front}
use Rattle.listing.specs.Calls.{written_plate, read_listing, write_plate_call, read_plate_call}
use Rattle.listing.proofs.RoundTrips.{Bytes, listing-back, plate-back}
use Rattle.round_trips.specs.RoundTrips.{write_then_read, read_then_write}

-- ---- write_plate has answered w and left these bytes

module _ (listing book plate after : List ℕ) (w : Result ℕ Refusal) (called : (written_answer w, after) ≡ write_plate_call listing book plate) where
  pub plate-length : (n : ℕ) → w ≡ Ok n → n ≤ length after
  unfolding write_plate_call
  plate-length n e = (written-front (written_plate book listing) plate after n (rw e at (sym called))).1

  pub read_back : (n : ℕ) (again : List ℕ) → w ≡ Ok n → read_plate_call (take n after) book again ≡ write_then_read listing book plate again
  unfolding write_then_read
  read_back n again e =
      let wrote-n : write_plate_call listing book plate ≡ (wrote n, after) = rw e at (sym called) in
      rw wrote-n (listing-back book listing plate after again n wrote-n)

  pub not_written : (r : Refusal) (again : List ℕ) → w ≡ Err r
      → (refusing r.cause r.place, again) ≡ write_then_read listing book plate again
  unfolding write_then_read
  not_written r again e = rw (sym called, e)

-- ---- read_plate has answered w and left these bytes

module _ (plate book listing after : List ℕ) (w : Result ℕ Refusal) (called : (written_answer w, after) ≡ read_plate_call plate book listing) where
  pub listing-length : (n : ℕ) → w ≡ Ok n → n ≤ length after
  unfolding read_plate_call
  listing-length n e = (written-front (read_listing book plate) listing after n (rw e at (sym called))).1

  pub written_back : (n : ℕ) (again : List ℕ) → Bytes plate → w ≡ Ok n
      → write_plate_call (take n after) book again ≡ read_then_write plate book listing again
  unfolding read_then_write
  written_back n again bytes e =
      let wrote-n : read_plate_call plate book listing ≡ (wrote n, after) = rw e at (sym called) in
      rw wrote-n (plate-back book plate listing after again n bytes wrote-n)

  pub not-read : (r : Refusal) (again : List ℕ) → w ≡ Err r
      → (refusing r.cause r.place, again) ≡ read_then_write plate book listing again
  unfolding read_then_write
  not-read r again e = rw (sym called, e)
