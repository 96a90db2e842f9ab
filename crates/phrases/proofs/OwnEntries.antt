-- The numbers of own phrases: what a number says of its text, and one own phrase more.
use Prim.Native.Nat.{ℕ, suc, ◌+◌, ◌-◌, ◌/◌, ◌%◌, ◌≤◌, ◌<◌}
use native.Mathlib.Omega.{arith}
use mathlib.Core.Path.{◌≡◌, refl, sym, ap, subst, ◌∙◌}
use mathlib.Core.List.{List, []}
use mathlib.Core.Bool.{Bool, true, false}
use Rattle.std.specs.Prelude.{None, Some}
use lib.ListN.{length, take, drop, get_or, set, length-set, get_or-map}
use lib.Seq.{get_or-set_other, get_or-take, take-set-le, drop-set-lt}
use lib.Dec.{eqb}
use borrow.Author.Tests.{eqb-true, eqb-false}
use Rattle.text.specs.Parts.{split, same, LF}
use Rattle.text.specs.Text.{Text}
use Rattle.text.proofs.Tests.{same-other}
use Rattle.phrases.specs.Phrases.{place}
use Rattle.phrases.specs.Lookup.{book_texts, phrase_text, own_texts}
use Rattle.phrases.specs.Index.{key, index_of, Indexed}
use Rattle.phrases.specs.Own.{sign_of, own_number, own_start, own_text, OwnAt, OwnNumbers, OwnKept}
use Rattle.phrases.proofs.Entries.{index-length, indexed-count}
use Rattle.phrases.proofs.Keys.{place-first, place-absent}

-- ---- a number's parts

module _ (at : ℕ) (t : Text) (near : at < 4096) where
  number-sign : own_number at t / 4096 ≡ sign_of (key t) (length t)
  unfolding own_number
  number-sign = omega arith

  number-start : own_number at t % 4096 ≡ at
  unfolding own_number
  number-start = omega arith

  number_size : length t < 128 → own_number at t / 4096 % 128 ≡ length t
  unfolding own_number
  number_size h = omega arith

-- an own phrase, by the place where it starts
pub own-there : (index book own : List ℕ) (k at : ℕ) → 129 + length (book_texts book) + k < length index → at < 4096
    → length (own_text own k) < 128 → at + length (own_text own k) ≤ length own
    → take (length (own_text own k)) (drop at own) ≡ own_text own k
    → get_or index (129 + length (book_texts book) + k) 0 ≡ own_number at (own_text own k)
    → OwnAt index book own k
own-there index book own k at room near short inside stands number =
    let starts : own_start index book k ≡ at = ap (λ n. n % 4096) number ∙ number-start at (own_text own k) near in
    record { room = room; short = short; inside = rw starts inside; stands = rw starts stands; number = rw starts number }

module _ (index book own : List ℕ) (k : ℕ) (i : Indexed index book) (o : OwnAt index book own k) where
  abbrev start : ℕ
  start = own_start index book k

  near : start < 4096
  near = omega arith

  -- where the number stands, by the first number of the index
  own-place : 129 + get_or index 0 0 + k ≡ 129 + length (book_texts book) + k
  own-place = omega (arith, indexed-count index book i)

  pub own_room : 129 + get_or index 0 0 + k < length index
  own_room = omega (arith, own-place, o.room)

  number_is : get_or index (129 + get_or index 0 0 + k) 0 ≡ own_number start (own_text own k)
  number_is = ap (λ p. get_or index p 0) own-place ∙ o.number

  own-start : get_or index (129 + get_or index 0 0 + k) 0 % 4096 ≡ start
  own-start = rw number_is (number-start start (own_text own k) near)

  own-size : get_or index (129 + get_or index 0 0 + k) 0 / 4096 % 128 ≡ length (own_text own k)
  own-size = rw number_is (number_size start (own_text own k) near o.short)

  own_sign : get_or index (129 + get_or index 0 0 + k) 0 / 4096 ≡ sign_of (key (own_text own k)) (length (own_text own k))
  own_sign = rw number_is (number-sign start (own_text own k) near)

  pub own-end : get_or index (129 + get_or index 0 0 + k) 0 % 4096 + get_or index (129 + get_or index 0 0 + k) 0 / 4096 % 128 ≤ length own
  own-end = omega (arith, own-start, own-size, o.inside)

  -- the part of the bytes that the number tells is the own phrase
  pub own-part : (x : ℕ) → x ≡ get_or index (129 + get_or index 0 0 + k) 0 → take (x % 4096 + x / 4096 % 128 - x % 4096) (drop (x % 4096) own) ≡ own_text own k
  own-part x e =
      let starts : x % 4096 ≡ start = rw e own-start in
      let sized : x / 4096 % 128 ≡ length (own_text own k) = rw e own-size in
      let size : start + length (own_text own k) - start ≡ length (own_text own k) = omega arith in
      rw (starts, sized, size) o.stands

  -- a text of another key or length is another text
  pub other_sign : (t : Text) (weight : ℕ) → weight ≡ key t
      → (get_or index (129 + get_or index 0 0 + k) 0 / 4096 ≡ sign_of weight (length t) → ⊥) → same t (own_text own k) ≡ false
  other_sign t weight w h =
      same-other t (own_text own k) (λ e. h (own_sign ∙ ap (λ u. sign_of (key u) (length u)) (sym e) ∙ ap (λ v. sign_of v (length t)) (sym w)))

-- own phrase k is the k-th of the first `count`
pub own-text : (count : ℕ) (own : List ℕ) (k : ℕ) → k < count → get_or (own_texts count own) k [] ≡ own_text own k
unfolding own_texts own_text split
own-text count own k h = get_or-map phrase_text (take count (split LF own)) k [] ∙ ap phrase_text (get_or-take count (split LF own) k [] h)

-- ---- a text looked for among the own phrases

module _ (count : ℕ) (own : List ℕ) (t : Text) (w : length (own_texts count own) ≡ count) where
  as-texts : (k : ℕ) → k < count → (v : Bool) → same t (own_text own k) ≡ v → same t (get_or (own_texts count own) k []) ≡ v
  as-texts k h v e = ap (same t) (own-text count own k h) ∙ e

  pub own-found : (k : ℕ) → k < count → same t (own_text own k) ≡ true → ((j : ℕ) → j < k → same t (own_text own j) ≡ false)
      → place (own_texts count own) t ≡ Some k
  own-found k h e before =
      place-first (own_texts count own) t k (omega (arith, w)) (as-texts k h true e) (λ j l. as-texts j (omega arith) false (before j l))

  pub own-absent : ((j : ℕ) → j < count → same t (own_text own j) ≡ false) → place (own_texts count own) t ≡ None
  own-absent none_is = place-absent (own_texts count own) t (λ j l. as-texts j (omega (arith, w)) false (none_is j (omega (arith, w))))

-- one more that is another
pub others-more : (own : List ℕ) (t : Text) (k : ℕ) → ((j : ℕ) → j < k → same t (own_text own j) ≡ false) → same t (own_text own k) ≡ false
    → (j : ℕ) → j < k + 1 → same t (own_text own j) ≡ false
others-more own t k before e j h = go (eqb j k) refl
  where
    go : (v : Bool) → eqb j k ≡ v → same t (own_text own j) ≡ false
    go true v = rw (eqb-true j k v) e
    go false v = let n = eqb-false j k v in before j (omega arith)

-- ---- one own phrase more

-- no own phrase yet
pub own-none : (index book own : List ℕ) → OwnNumbers index book own 0
unfolding own_texts
own-none index book own = record { whole = refl; each = λ k h. absurd (omega arith) }

module _ (index book own : List ℕ) (j v : ℕ) where
  -- a number behind the index leaves the index of the book
  pub index_kept : Indexed index book → Indexed (set index (129 + length (book_texts book) + j) v) book
  index_kept i =
      let ts = book_texts book in
      let kept = take-set-le (length (index_of ts)) index (129 + length ts + j) v (omega (arith, index-length ts)) in
      record { entries = kept ∙ i.entries; different = i.different; few = i.few; whole = i.whole; short = i.short }

  -- and the numbers of other own phrases
  own-kept : (k : ℕ) → (k ≡ j → ⊥) → OwnAt index book own k → OwnAt (set index (129 + length (book_texts book) + j) v) book own k
  own-kept k h o =
      let other = get_or-set_other index (129 + length (book_texts book) + j) (129 + length (book_texts book) + k) v 0 (λ e. h (omega arith)) in
      let from : own_start (set index (129 + length (book_texts book) + j) v) book k ≡ own_start index book k = ap (λ n. n % 4096) other in
      record {
        room = simp length-set o.room;
        short = o.short;
        inside = rw from o.inside;
        stands = rw from o.stands;
        number = rw from (other ∙ o.number);
      }

  pub own-more : OwnNumbers index book own j → length (own_texts (suc j) own) ≡ suc j
      → OwnAt (set index (129 + length (book_texts book) + j) v) book own j
      → OwnNumbers (set index (129 + length (book_texts book) + j) v) book own (suc j)
  own-more o w last = record { whole = w; each = each }
    where
      each : (k : ℕ) → k < suc j → OwnAt (set index (129 + length (book_texts book) + j) v) book own k
      each k h = go (eqb k j) refl
        where
          go : (b : Bool) → eqb k j ≡ b → OwnAt (set index (129 + length (book_texts book) + j) v) book own k
          go true e = subst (OwnAt (set index (129 + length (book_texts book) + j) v) book own) (sym (eqb-true k j e)) last
          go false e = let n = eqb-false k j e in own-kept k n (o.each k (omega arith))

-- ---- what differs

module _ (book before : List ℕ) where
  pub kept-none : OwnKept book before before
  kept-none = record { front = refl; behind = refl }

  pub kept_more : (after : List ℕ) (j v : ℕ) → j < 32 → OwnKept book before after
      → OwnKept book before (set after (129 + length (book_texts book) + j) v)
  kept_more after j v h k =
      let n = length (book_texts book) in
      record {
        front = take-set-le (129 + n) after (129 + n + j) v (omega arith) ∙ k.front;
        behind = drop-set-lt (161 + n) after (129 + n + j) v (omega arith) ∙ k.behind;
      }
