-- What is left in the lent buffer, by what one pass over the lines has made.
use Prim.Native.Nat.{ℕ, suc}
use mathlib.Core.Path.{◌≡◌}
use mathlib.Core.List.{List}
use mathlib.Core.Option.{none}
use lib.ListN.{length}
use Rattle.causes.specs.Answers.{refusing}
use Rattle.bits.specs.Bits.{bytes_bits}
use Rattle.text.specs.Text.{Text}
use Rattle.plate.specs.Program.{Program}
use Rattle.plate.specs.Writing.{program_bits, plate_bytes}
use Rattle.listing.specs.Listing.{first_past}
use Rattle.plate_room.specs.Plates.{lent_plate, lent_bits}
use Rattle.plate_room.proofs.LentPlates.{lent-plate}
use Rattle.std.specs.Prelude.{Result, Ok, Err}
use Rattle.causes.specs.declared.Refusal.{Refusal}
use Rattle.assemble.specs.Assembled.{lent_program, Produced}

module _ (book : List Text) (p : Program) (buffer : List ℕ) where
  -- where no skip goes past, what is left is the plate
  pub lent-within : first_past (suc (length p.own)) p.instructions ≡ none → lent_program book p buffer ≡ lent_plate book p buffer
  lent-within e = rw e

  module _ (r : Result ℕ Refusal) (old new : List ℕ) (h : Produced book p old r new) where
    pub lent-past : {f : Refusal} → r ≡ Err f → (refusing f.cause f.place, buffer) ≡ lent_program book p buffer
    unfolding Produced
    lent-past e = let k = rw e at h in rw (k.0, k.1)

    pub lent-made : {n : ℕ} → r ≡ Ok n → length old ≡ 2953 → lent_bits (bytes_bits new) n buffer ≡ lent_program book p buffer
    unfolding plate_bytes Produced
    lent-made e z =
        let k = rw e at h in
        rw k.0 (lent-plate (program_bits book p) old k.1 z buffer)
