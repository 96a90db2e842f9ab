-- The head of an instruction that is known to be good: its code and its skip are the numbers that stand there.
use Prim.Native.Nat.{ℕ, ◌≤◌}
use mathlib.Core.Path.{◌≡◌, refl, ap, ◌∙◌}
use mathlib.Core.List.{List}
use mathlib.Core.Bool.{Bool, true, false}
use native.Mathlib.Omega.{arith}
use lib.ListN.{length}
use lib.Dec.{leb}
use borrow.Author.Tests.{le-leb}
use Rattle.causes.specs.declared.Cause.TheVariants.{Unused, Skip}
use Rattle.transcript.specs.declared.Test.{Test}
use Rattle.phrases.specs.Phrases.{Phrases}
use Rattle.plate.specs.Program.{Instruction, if_skip}
use Rattle.plate.specs.Reading.{Place, Read, got, stopped, number, judge_read, judged, return, onward, ◌>>=◌}
use Rattle.plate.specs.Plate.{test, skip, fields_by, instruction}
use Rattle.plate.proofs.Readers.{gives-number}
use Rattle.fields.specs.Places.{place_at, Known}
use Rattle.fields.proofs.Onward.{then-got, got-good}
use Rattle.fields.proofs.Ahead.{known-room}
use Rattle.plate_texts.proofs.Known.{known_same, known-first, known-judged}

pub skip_read : (behind : ℕ) (plate : List ℕ) (at : ℕ) → Known (skip behind (place_at plate at))
    → number 9 (place_at plate at) ≡ skip behind (place_at plate at)
unfolding skip
skip_read behind plate at w = known-judged _ _ _ plate at w

-- a skip that was judged is let through as one of 9 bits
skip-same : (behind : ℕ) (p : Place) → Known (skip behind p) → skip 511 p ≡ skip behind p
unfolding skip judged
skip-same behind p w = go (number 9 p) refl w
  where
    by : (k : ℕ) (q : Place) → leb k 511 ≡ true → (b : Bool) → leb k behind ≡ b
        → Known (judge_read (λ k. leb k behind) Skip p.at (got k q))
        → judge_read (λ k. leb k 511) Skip p.at (got k q) ≡ judge_read (λ k. leb k behind) Skip p.at (got k q)
    by k q t true h w = rw (t, h)
    by k q t false h w = absurd ((rw h at w).good refl)

    go : (m : Read ℕ) → m ≡ number 9 p → Known (judge_read (λ k. leb k behind) Skip p.at m)
        → judge_read (λ k. leb k 511) Skip p.at m ≡ judge_read (λ k. leb k behind) Skip p.at m
    go (got k q) e w = by k q (le-leb k 511 (omega (arith, got-good p (gives-number 9) e))) (leb k behind) refl w
    go (stopped c bit) e w = refl

-- so are the fields of an if
pub if-same : (c : Phrases) (behind : ℕ) (p : Place) → Known (fields_by c behind 5 p) → fields_by c 511 5 p ≡ fields_by c behind 5 p
unfolding ◌>>=◌
if-same c behind p w = go (test p) w
  where
    go : (m : Read Test) → Known (onward m (λ t. skip behind >>= λ k. return (if_skip t k)))
        → onward m (λ t. skip 511 >>= λ k. return (if_skip t k)) ≡ onward m (λ t. skip behind >>= λ k. return (if_skip t k))
    go (got t q) w = ap (λ m. onward m (λ k. return (if_skip t k))) (skip-same behind q (known-first (skip behind) _ q w))
    go (stopped cause bit) w = refl

module _ (c : Phrases) (behind : ℕ) (plate : List ℕ) (at : ℕ) (w : Known (instruction c behind (place_at plate at))) where
  code_read : number 3 (place_at plate at) ≡ judged (number 3) (λ k. leb k 5) Unused (place_at plate at)
  unfolding instruction
  code_read = known-judged _ _ _ plate at (known-first _ _ _ w)

  pub code-known : Known (number 3 (place_at plate at))
  unfolding instruction
  code-known = known_same code_read (known-first _ _ _ w)

  -- an instruction begins on the plate
  pub instruction-at : length plate ≤ 2953 → at ≤ 23624
  instruction-at short = omega (arith, known-room plate at 3 code-known)

  -- the fields behind the code, where they are those of n
  pub by_code : (n : ℕ) {k : ℕ} {q : Place} {m : Read Instruction} → got k q ≡ number 3 (place_at plate at)
      → fields_by c behind n q ≡ fields_by c behind k q → (Known (fields_by c behind n q) → m ≡ fields_by c behind n q)
      → m ≡ instruction c behind (place_at plate at)
  unfolding instruction
  by_code n e same f = let all = same ∙ then-got _ (fields_by c behind) _ (e ∙ code_read) in f (known_same all w) ∙ all
