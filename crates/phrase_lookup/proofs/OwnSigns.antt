-- The numbers of the own phrases, searched by their signs.
use Prim.Native.Nat.{ℕ, zero, suc, ◌+◌, ◌-◌, ◌/◌, ◌%◌, ◌≤◌, ◌<◌}
use native.Mathlib.Omega.{arith}
use mathlib.Core.Path.{◌≡◌, refl}
use mathlib.Core.List.{List}
use mathlib.Core.Bool.{Bool, true, false}
use lib.ListN.{length, take, drop, get_or, length-take, length-drop}
use lib.Seq.{get_or-take, get_or-drop}
use lib.Dec.{ltb}
use borrow.Author.Tests.{ltb-true, ltb-false}
use Rattle.text.specs.Parts.{same}
use Rattle.text.specs.Text.{Text}
use Rattle.text.proofs.Places.{same-short}
use Rattle.phrases.specs.Index.{key, Indexed}
use Rattle.phrases.specs.Own.{sign_of, own_text, OwnAt, OwnNumbers}
use Rattle.phrases.proofs.Entries.{index-long, indexed-count}
use Rattle.phrases.proofs.OwnEntries.{own_room, other_sign}

-- a text of another key or length than the number says is another text; own phrases are shorter than 128 bytes
module _ (index book own : List ℕ) (k : ℕ) (i : Indexed index book) (o : OwnAt index book own k) (t : Text) (weight : ℕ) (w : weight ≡ key t) where
  pub other_text : (get_or index (129 + get_or index 0 0 + k) 0 / 4096 ≡ sign_of weight (length t % 128) → ⊥) → same t (own_text own k) ≡ false
  other_text n = go (ltb (length t) 128) refl
    where
      go : (v : Bool) → ltb (length t) 128 ≡ v → same t (own_text own k) ≡ false
      go true e =
          let size : length t % 128 ≡ length t = omega (arith, ltb-true (length t) 128 e) in
          other_sign index book own k i o t weight w (rw size at n)
      go false e = same-short t (own_text own k) (λ l. omega (arith, ltb-false (length t) 128 e, o.short))

-- the numbers of the first `count` own phrases, behind an index of n texts
abbrev numbers_in : List ℕ → ℕ → ℕ → List ℕ
numbers_in index n count = take (129 + n + count - (129 + n)) (drop (129 + n) index)

module _ (index book own : List ℕ) (n : ℕ) (i : Indexed index book) (f : n ≡ get_or index 0 0) where
  pub numbers-end : (count : ℕ) → OwnNumbers index book own count → 129 + n + count ≤ length index
  numbers-end zero o = omega (arith, index-long index book i, indexed-count index book i)
  numbers-end (suc k) o = omega (arith, own_room index book own k i (o.each k (omega arith)))

  module _ (count : ℕ) (o : OwnNumbers index book own count) where
    size : 129 + n + count - (129 + n) ≡ count
    size = omega arith

    pub numbers-length : length (numbers_in index n count) ≡ count
    numbers-length = rw (size, length-take, length-drop) (omega (arith, numbers-end count o))

    pub number_at : (k : ℕ) → k < count → get_or (numbers_in index n count) k 0 ≡ get_or index (129 + get_or index 0 0 + k) 0
    number_at k h = rw (size, get_or-take count (drop (129 + n) index) k 0 h, get_or-drop, f)
