-- The open ifs that are held in an array: none, the innermost, one more, and the innermost changed.
use Prim.Native.Nat.{ℕ, zero, suc, ◌+◌, ◌-◌, ◌<◌, ◌≤◌}
use native.Mathlib.Omega.{arith}
use native.Mathlib.Numerals.{sub-one}
use mathlib.Core.Path.{◌≡◌, refl, ap}
use mathlib.Core.List.{List, [], ◌∷◌}
use mathlib.Core.Bool.{true, false}
use lib.ListN.{length, set, get_or, length-set}
use lib.Seq.{get_or-set_same, get_or-set_other}
use Rattle.check_lines.specs.Held.{open_at, open_ifs}

module _ (os : List ℕ) where
  pub depth_is : (d : ℕ) → length (open_ifs d os) ≡ d
  unfolding open_ifs
  depth_is zero = refl
  depth_is (suc d) = ap suc (depth_is d)

  pub none_open : (d : ℕ) → d ≡ 0 → open_ifs d os ≡ []
  unfolding open_ifs
  none_open d e = rw e

  pub innermost : (d : ℕ) → (d ≡ 0 → ⊥) → open_ifs d os ≡ open_at os (d - 1) ∷ open_ifs (d - 1) os
  unfolding open_ifs
  innermost zero h = absurd (h refl)
  innermost (suc d) h = rw sub-one

  -- a store behind those that are open
  stored-line : (d e v : ℕ) → d ≤ e → e < 16 → open_ifs d (set os e v) ≡ open_ifs d os
  unfolding open_ifs
  stored-line zero e v h k = refl
  stored-line (suc d) e v h k =
      rw (get_or-set_other os e d v 0 (λ n. omega arith), get_or-set_other os e (d + 16) v 0 (λ n. omega arith), stored-line d e v (omega arith) k)

  stored-turn : (d e v : ℕ) → d ≤ e → d ≤ 16 → open_ifs d (set os (e + 16) v) ≡ open_ifs d os
  unfolding open_ifs
  stored-turn zero e v h k = refl
  stored-turn (suc d) e v h k =
      rw (get_or-set_other os (e + 16) d v 0 (λ n. omega arith), get_or-set_other os (e + 16) (d + 16) v 0 (λ n. omega arith), stored-turn d e v (omega arith) (omega arith))

module _ (os : List ℕ) (size : length os ≡ 32) where
  pub one-more-open : (d n : ℕ) → d < 16
      → open_ifs (suc d) (set (set os d n) (d + 16) 0) ≡ record { line = n; turned = false } ∷ open_ifs d os
  unfolding open_ifs
  one-more-open d n h =
      let k : d + 16 < length (set os d n) = rw length-set (omega arith) in
      rw (
        get_or-set_same (set os d n) (d + 16) 0 0 k,
        get_or-set_other (set os d n) (d + 16) d 0 0 (λ e. omega arith),
        get_or-set_same os d n 0 (omega arith),
        stored-turn (set os d n) d d 0 (omega arith) (omega arith),
        stored-line os d d n (omega arith) h,
      )

  pub innermost-turned : (d : ℕ) → 0 < d → d ≤ 16
      → open_ifs d (set os (d - 1 + 16) 1) ≡ record { line = get_or os (d - 1) 0; turned = true } ∷ open_ifs (d - 1) os
  unfolding open_ifs
  innermost-turned zero h k = absurd (omega arith)
  innermost-turned (suc d) h k =
      let n : suc d - 1 ≡ d = omega arith in
      rw (
        n,
        get_or-set_same os (d + 16) 1 0 (omega arith),
        get_or-set_other os (d + 16) d 1 0 (λ e. omega arith),
        stored-turn os d d 1 (omega arith) (omega arith),
      )
