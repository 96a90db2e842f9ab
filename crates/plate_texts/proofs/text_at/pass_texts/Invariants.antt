-- `pass_texts` meets its contract. The loop's invariant: what is left ends where all of it ends.
use Prim.Native.Nat.{◌+◌, ◌-◌, ◌≤◌}
use lib.ListN.{length}
use Rattle.output.specs.Pour.{up_to}
use Rattle.transcript.specs.Offered.{options_bytes}
use Rattle.plate.specs.Plate as reader
use Rattle.fields.specs.Places.{place_at}
use Rattle.plate_texts.proofs.TextsRead.{Passing}
use Rattle.plate_texts.proofs.text_at.pass_texts.Given as goal

abbrev pub invariant-loop : goal.invariant-loop
invariant-loop l = Passing (λ j. reader.text l.known) (place_at l.plate l.at) l.n (λ ts. up_to (l.front + length (options_bytes ts))) (l.n - l.counter) (place_at l.plate l.bit)
    (λ ts. up_to (l.size + length (options_bytes ts))) × (l.size ≤ 18446744073709551615)
