-- The own phrases of a program: written and read.
use Prim.Native.Nat.{ℕ, zero, suc, ◌^◌, ◌≤◌, ◌<◌}
use mathlib.Core.Path.{◌≡◌, refl, sym, ap}
use mathlib.Core.List.{List, [], ◌∷◌, ◌++◌, append-nil}
use mathlib.Core.Bool.{Bool, true}
use native.Mathlib.Omega.{arith}
use lib.ListN.{length}
use Rattle.bits.specs.Bits.{bits_of}
use Rattle.text.specs.Parts.{all}
use Rattle.text.specs.Text.{Text}
use Rattle.text.proofs.Tests.{and_both, all_first, all_rest}
use Rattle.text.specs.Text.{is_plain}
use Rattle.phrases.proofs.Valid.{PhrasesOk}
use Rattle.plate.specs.Writing.{phrases_bits, own_bits}
use Rattle.plate.specs.Plate.{own_count_by, own_count}
use Rattle.plate.specs.Plate.{own_from}
use Rattle.plate.proofs.Readers.{
  Takes,
  Gives,
  takes-number,
  takes-return,
  takes-then,
  takes-only,
  takes-last,
  gives-number,
  gives-return,
  gives_then,
}
use Rattle.plate.proofs.Spelled.{takes-spelled, gives-spelled}

-- the own phrases behind earlier ones
pub takes-own : (book earlier ts : List Text) → PhrasesOk book earlier ts → all is_plain ts ≡ true
    → Takes (own_from book earlier (length ts)) (phrases_bits ts) ts
unfolding own_from phrases_bits
takes-own book earlier [] h k = takes-return []
takes-own book earlier (t ∷ ts) h k =
    takes-then _ (takes-spelled book earlier t h.0 (all_first is_plain t ts k) h.1)
    (takes-last _ (takes-own book (earlier ++ (t ∷ [])) ts h.2 (all_rest is_plain t ts k)))

pub gives-own : (book earlier : List Text) (n : ℕ)
    → Gives (own_from book earlier n) [] phrases_bits (λ ts. (length ts ≡ n) × PhrasesOk book earlier ts × (all is_plain ts ≡ true))
unfolding own_from phrases_bits all
gives-own book earlier zero = gives-return [] (refl, tt, refl) refl
gives-own book earlier (suc n) =
    gives_then (gives-spelled book earlier) (λ t ht.
    gives_then (gives-own book (earlier ++ (t ∷ [])) n) (λ ts hs.
    gives-return (t ∷ ts) (ap suc hs.0, (ht.0, ht.1, hs.1), and_both ht.2 hs.2) refl))

-- the bits of their number
abbrev pub count_bits : ℕ → List Bool
count_bits zero = bits_of 1 0
count_bits (suc n) = bits_of 1 1 ++ bits_of 5 n

pub own_bits_lem : (ts : List Text) → own_bits ts ≡ count_bits (length ts) ++ phrases_bits ts
unfolding own_bits phrases_bits
own_bits_lem [] = sym (append-nil _)
own_bits_lem (t ∷ ts) = refl

pub takes_count : (n : ℕ) → n ≤ 32 → Takes own_count (count_bits n) n
unfolding own_count
takes_count zero h = takes-only _ (takes-number 1 0 (omega arith)) (takes-return 0)
takes_count (suc n) h = takes-then _ (takes-number 1 1 (omega arith)) (takes-last _ (takes-number 5 n (omega arith)))

pub gives-count : Gives own_count [] count_bits (λ n. n ≤ 32)
unfolding own_count
gives-count = gives_then (gives-number 1) by
  where
    by : (b : ℕ) → b < 2 ^ 1 → Gives (own_count_by b) (bits_of 1 b) count_bits (λ n. n ≤ 32)
    by zero h = gives-return 0 (omega arith) refl
    by (suc b) h =
        let one : suc b ≡ 1 = omega arith in
        gives_then (gives-number 5) (λ k hk. gives-return (suc k) (omega arith) (rw one))
