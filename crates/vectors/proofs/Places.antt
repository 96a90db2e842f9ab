-- Numbers and slices at a place of the input, by the parts from which the readers make them.
use Rattle.std.proofs.Common.{ℕ, ◌+◌, ◌-◌, ◌<◌, ◌≤◌, ap, ◌⊎◌, inl, inr, Bor, Option, Some, None, MatchOption}
use Rattle.std.specs.Option.{unwrap_or}
use native.Mathlib.Omega.{arith}
use mathlib.Core.Path.{◌≡◌, refl, sym, ◌∙◌}
use mathlib.Core.List.{List, []}
use mathlib.Core.Bool.{Bool, true, false}
use lib.ListN.{length, take, drop, length-drop}
use lib.Seq.{take_all}
use lib.Dec.{leb}
use borrow.Author.Tests.{le-leb, lt-leb, leb-true, leb-false}
use Rattle.vectors.specs.Input.{onward, number_at, slice_at, slice_end}

-- a slice that goes past the end has no bytes
pub slice-none : (s : List ℕ) (at : ℕ) → length s < slice_end s at → [] ≡ slice_at s at
unfolding slice_at
slice-none s at h = rw (lt-leb (slice_end s at) (length s) h)

-- from a place to the place so many bytes on stand as many bytes; up to the greatest number, all that are left
take-onward : (s : List ℕ) (from n : ℕ) → from ≤ 18446744073709551615 → length s ≤ 18446744073709551615
    → take (onward from n - from) (drop from s) ≡ take n (drop from s)
take-onward s from n h l = go (leb (from + n) 18446744073709551615) refl
  where
    go : (b : Bool) → leb (from + n) 18446744073709551615 ≡ b → take (onward from n - from) (drop from s) ≡ take n (drop from s)
    go true e = let k = leb-true (from + n) 18446744073709551615 e in let m : onward from n - from ≡ n = omega arith in rw m
    go false e = let k = leb-false (from + n) 18446744073709551615 e in let d = length-drop from s in
        take_all (onward from n - from) (drop from s) (omega arith) ∙ sym (take_all n (drop from s) (omega arith))

-- a slice that ends before the end has its bytes
pub slice-there : (s : List ℕ) (at : ℕ) → slice_end s at ≤ length s → length s ≤ 18446744073709551615
    → take (slice_end s at - onward at 4) (drop (onward at 4) s) ≡ slice_at s at
unfolding slice_at
slice-there s at h l = rw (le-leb (slice_end s at) (length s) h) (take-onward s (onward at 4) (number_at s at) (omega arith) l)

-- what `get` finds between the length and the end, or nothing
pub slice-got : (s : List ℕ) (at from end : ℕ) (got : Option (Bor (List ℕ))) (none some : Bor (List ℕ)) → from ≡ onward at 4
    → end ≡ slice_end s at → length s ≤ 18446744073709551615 → MatchOption got ((end < from) ⊎ (length s < end)) (λ x. (from ≤ end) × (end ≤ length s) × (x.now ≡ take (end - from) (drop from s)) × (length x.now + from ≡ end))
    → some ≡ unwrap_or got none → none.now ≡ [] → some.now ≡ slice_at s at
slice-got s at from end None none some f e l h u n =
    let past : length s < slice_end s at = elim h [ inl k ↦ omega arith | inr k ↦ omega arith ] in
    ap (λ (b : Bor (List ℕ)). b.now) u ∙ n ∙ slice-none s at past
slice-got s at from end (Some x) none some f e l h u n =
    ap (λ (b : Bor (List ℕ)). b.now) u ∙ rw (f, e) at h.2 ∙ slice-there s at (omega arith) l
