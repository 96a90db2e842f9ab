-- The number of own phrases, as the code reads it.
use Prim.Native.Nat.{ℕ, zero, suc, ◌+◌}
use native.Mathlib.Numerals.{add-one}
use mathlib.Core.Path.{◌≡◌, refl, sym, ap, ◌∙◌}
use Rattle.causes.specs.declared.Cause.{Cause}
use Rattle.plate.specs.Reading.{Place, got, stopped, number, return}
use Rattle.plate.specs.Plate.{own_count_by, own_count}
use Rattle.fields.proofs.Onward.{then-got, then-stopped}

module _ (p : Place) where
  pub count-refused : {cause : Cause} {bit : ℕ} → stopped cause bit ≡ number 1 p → stopped cause bit ≡ own_count p
  unfolding own_count
  count-refused e = then-stopped (number 1) own_count_by p e

  module _ {b : ℕ} {q : Place} (e : got b q ≡ number 1 p) where
    pub count_none : b ≡ 0 → got 0 q ≡ own_count p
    unfolding own_count return
    count_none z = sym (ap (λ k. own_count_by k q) z) ∙ then-got (number 1) own_count_by p e

    count-some : (b ≡ 0 → ⊥) → own_count_by 1 q ≡ own_count p
    unfolding own_count
    count-some h = go b h (then-got (number 1) own_count_by p e)
      where
        go : (k : ℕ) → (k ≡ 0 → ⊥) → own_count_by k q ≡ own_count p → own_count_by 1 q ≡ own_count p
        go zero h l = absurd (h refl)
        go (suc k) h l = l

    pub count_cut : {cause : Cause} {bit : ℕ} → (b ≡ 0 → ⊥) → stopped cause bit ≡ number 5 q → stopped cause bit ≡ own_count p
    count_cut h k = then-stopped (number 5) (λ k. return (suc k)) q k ∙ count-some h

    pub count-read : (n : ℕ) {s : Place} → (b ≡ 0 → ⊥) → got n s ≡ number 5 q → got (n + 1) s ≡ own_count p
    unfolding return
    count-read n {s} h k = ap (λ m. got m s) add-one-of ∙ then-got (number 5) (λ k. return (suc k)) q k ∙ count-some h
      where
        add-one-of : n + 1 ≡ suc n
        add-one-of = add-one n
