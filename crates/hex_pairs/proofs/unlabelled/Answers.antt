-- `unlabelled` meets its contract: the library's `strip_prefix` takes the label off.
use Rattle.std.proofs.Common.{◌≡◌, List, ℕ, Option, Some, None, true, false, take, drop, length, ◌+◌, Bor}
use Rattle.std.specs.Prelude.{MatchOption}
use Rattle.std.specs.Option.{unwrap_or}
use Rattle.std.specs.Str.{bytes_eq}
use Rattle.text.specs.Quoted.{bytes}
use Rattle.text.proofs.Words.{same_is}
use Rattle.hex_pairs.specs.Pairs.{unlabelled}
use Rattle.hex_pairs.proofs.unlabelled.Goals as goal

taken : (r : Option (Bor (List ℕ))) (line : Bor (List ℕ))
    → MatchOption r (bytes_eq (take 6 line.now) (bytes "plate,") ≡ false) (λ x. (bytes_eq (take 6 line.now) (bytes "plate,") ≡ true) × (x.now ≡ drop 6 line.now) × (length x.now + 6 ≡ length line.now))
    → (unwrap_or r line).now ≡ unlabelled line.now
unfolding unlabelled
taken None line h = rw (same_is (take 6 line.now) (bytes "plate,"), h)
taken (Some x) line h = rw (same_is (take 6 line.now) (bytes "plate,"), h.0) h.1

pub returns : goal.returns
returns c = rw c.unwrap_or.ensures (taken c.strip_prefix.result c.args.line c.strip_prefix.ensures.cases)
