-- `is_ascii` meets its contract: the library's `is_ascii` is the test of every byte.
use Rattle.std.proofs.Common.{◌≡◌, ◌<◌, ◌≤◌, ℕ, List, length, get_or, refl, arith}
use mathlib.Core.Bool.{Bool, true, false}
use borrow.Author.Tests.{le-leb, lt-leb}
use Rattle.std.specs.Bool.{MatchBool}
use Rattle.std.specs.Str.{IsAscii, IsNotAscii}
use Rattle.std.proofs.lemmas.List.Recursion.{and_is}
use Rattle.std.proofs.lemmas.List.{get_or_past}
use Rattle.text.specs.Parts.{all}
use Rattle.text.specs.Utf8.{ascii}
use Rattle.utf8.proofs.is_ascii.Goals as goal

-- past the end a list reads as 0
within : (s : List ℕ) (i : ℕ) → 128 ≤ get_or s i 0 → i < length s
within s i h = grind (arith, get_or_past s i 0)

tested : (r : Bool) (s : List ℕ) → MatchBool r (IsAscii s) (IsNotAscii s) → r ≡ all ascii s
unfolding all
tested true s h = and_is (all ascii) ascii refl (λ b s. refl) s 0 true (λ e i l. le-leb _ _ (omega (arith, h i))) (λ e. cc)
tested false s h = and_is (all ascii) ascii refl (λ b s. refl) s 0 false (λ e. cc) (λ e. (h.0, within s h.0 h.1, lt-leb _ _ h.1))

pub returns : goal.returns
returns c = tested c.is_ascii.result c.args.s.now c.is_ascii.ensures.cases
