-- `copy_texts` meets its contract. The loop's invariant: what is left of the texts is known to be good, ends where all of them end, and
-- written from here on makes all of them.
use Prim.Native.Nat.{◌-◌, ◌≤◌}
use mathlib.Core.Path.{◌≡◌}
use lib.ListN.{length}
use Rattle.plate.specs.Reading.{many}
use Rattle.plate.specs.Plate as reader
use Rattle.fields.specs.Places.{place_at, Known}
use Rattle.plate_texts.proofs.TextsRead.{Passing}
use Rattle.plate_texts.proofs.CopiedTexts.{Left}
use Rattle.plate_texts.proofs.copying.copy_texts.Given as goal

abbrev pub invariant-loop : goal.invariant-loop
invariant-loop l = Passing (λ j. reader.text l.known) (place_at l.plate l.at) l.n (λ ts. l.n) (l.n - l.counter) (place_at l.plate l.bit) (λ ts. l.n)
    × Known (many (λ j. reader.text l.known) (l.n - l.counter) (place_at l.plate l.bit))
    × Left (λ j. reader.text l.known) (place_at l.plate l.at) l.n l.from l.initial.out (l.n - l.counter) (place_at l.plate l.bit) l.end l.out
    × (length l.out ≡ length l.initial.out) × (l.end ≤ 18446744073709551615)
