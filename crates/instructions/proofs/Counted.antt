-- Options of which the number and the end are known: how many were read, and where they end.
use Prim.Native.Nat.{ℕ}
use mathlib.Core.Path.{◌≡◌, refl, ap, ◌∙◌}
use mathlib.Core.List.{List}
use native.Mathlib.Omega.{arith}
use lib.ListN.{length}
use Rattle.text.specs.Text.{Text}
use Rattle.phrases.specs.Phrases.{Phrases}
use Rattle.plate.specs.Reading.{Place, Read, got, stopped}
use Rattle.plate.specs.Plate.{options}
use Rattle.fields.specs.Places.{end_with, count_read, values_of}

module _ (c : Phrases) (p : Place) {k : ℕ} {q : Place} (e : got k q ≡ count_read (options c p)) where
  some : (ts : List Text) × (got ts q ≡ options c p) × (k ≡ length ts)
  some = go (options c p) refl
    where
      go : (m : Read (List Text)) → options c p ≡ m → (ts : List Text) × (got ts q ≡ options c p) × (k ≡ length ts)
      go (got ts s) f = (ts, cc, cc)
      go (stopped cause bit) f = let z : ◌≡◌ {A = ℕ} 0 1 = cc in absurd (omega arith)

  pub options-end : got 0 q ≡ end_with 0 (options c p)
  options-end = ap (end_with 0) some.1

  pub options-count : k ≡ length (values_of (options c p))
  options-count = some.2 ∙ ap (λ m. length (values_of m)) some.1
