-- A constant, written in decimal and read back, and read and written again.
use Prim.Native.Nat.{ℕ, zero, suc, ◌<◌, ◌≤◌}
use mathlib.Core.Path.{◌≡◌, refl, ◌∙◌}
use mathlib.Core.List.{List, [], ◌∷◌}
use mathlib.Core.Bool.{Bool, true, false, cond}
use Rattle.std.specs.Prelude.{Option, None, Some}
use Rattle.std.proofs.lemmas.Option.{none-some}
use native.Mathlib.Omega.{arith}
use lib.ListN.{length}
use lib.Dec.{eqb}
use lib.IntN.{ℤ, pos, negsuc}
use lib.Signed.{mag}
use borrow.Author.Tests.{eqb-true, ne_eqb}
use Rattle.decimals.specs.Number.{is_digit, is_natural, natural, positive, negative, constant, decimalℕ, decimal, minus}
use Rattle.text.proofs.Tests.{all_first}
use Rattle.decimals.proofs.Decimals.{digit-bounds, natural-digits, decimalℕ-natural, natural-read, natural-written, decimalℕ-short}

-- digits do not begin with a minus sign
unsigned : (s : List ℕ) → is_natural s ≡ true → constant s ≡ positive (natural 2147483647 s)
unfolding constant is_natural
unsigned [] h = cc
unsigned (b ∷ s) h =
    let l = digit-bounds b (all_first is_digit b s (natural-digits (b ∷ s) h)) in
    rw (ne_eqb b minus (λ e. omega arith))

pub constant-read : (c : ℤ) → mag c < 2147483648 → constant (decimal c) ≡ Some c
unfolding constant decimal
constant-read (pos n) h = unsigned (decimalℕ n) (decimalℕ-natural n) ∙ rw (natural-read 2147483647 n (omega arith))
constant-read (negsuc n) h = rw (natural-read 2147483648 (suc n) (omega arith))

pub constant-written : (s : List ℕ) (c : ℤ) → constant s ≡ Some c → (decimal c ≡ s) × (mag c < 2147483648)
unfolding constant decimal
constant-written [] c h = absurd (none-some c h)
constant-written (b ∷ s) c h = go (eqb b minus) refl h
  where
    below : (o : Option ℕ) → natural 2147483648 s ≡ o → eqb b minus ≡ true → negative o ≡ Some c
        → (decimal c ≡ b ∷ s) × (mag c < 2147483648)
    below None e m q = absurd (none-some c q)
    below (Some zero) e m q = absurd (none-some c q)
    below (Some (suc n)) e m q =
        let v : negsuc n ≡ c = cc in
        let w = natural-written 2147483648 s (suc n) e in
        rw (← v) (rw (eqb-true b minus m, w.0) refl, omega arith)

    above : (o : Option ℕ) → natural 2147483647 (b ∷ s) ≡ o → positive o ≡ Some c → (decimal c ≡ b ∷ s) × (mag c < 2147483648)
    above None e q = absurd (none-some c q)
    above (Some n) e q =
        let v : pos n ≡ c = cc in
        let w = natural-written 2147483647 (b ∷ s) n e in
        rw (← v) (w.0, omega arith)

    go : (t : Bool) → eqb b minus ≡ t
        → cond t (negative (natural 2147483648 s)) (positive (natural 2147483647 (b ∷ s))) ≡ Some c
        → (decimal c ≡ b ∷ s) × (mag c < 2147483648)
    go true e q = below (natural 2147483648 s) refl e q
    go false e q = above (natural 2147483647 (b ∷ s)) refl q

pub decimal-short : (c : ℤ) → mag c < 2147483648 → length (decimal c) ≤ 11
unfolding decimal
decimal-short (pos n) h = let l = decimalℕ-short 9 n (omega arith) in omega arith
decimal-short (negsuc n) h = let l = decimalℕ-short 9 (suc n) (omega arith) in omega arith
