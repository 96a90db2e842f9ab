-- The index of a book: what its numbers say of the texts, and where a text stands.
use Prim.Native.Nat.{ℕ, zero, suc, ◌+◌, ◌-◌, ◌/◌, ◌%◌, ◌≤◌, ◌<◌}
use native.Mathlib.Omega.{arith}
use native.Mathlib.Nat.{zero-add}
use native.Mathlib.Numerals.{add-one}
use mathlib.Core.Path.{◌≡◌, refl, sym, ap, subst, ◌∙◌}
use mathlib.Core.List.{List, [], ◌∷◌, ◌++◌, append-nil}
use mathlib.Core.Bool.{Bool, true, false, cond}
use lib.ListN.{length, take, drop, get_or, length-drop, length-take, length-append, get_or-append}
use lib.Seq.{length-take-le, take-suc, take-length, get_or-take, get_or-append-add, append_snoc}
use lib.Dec.{eqb, leb, ltb}
use borrow.Author.Tests.{leb-true, leb-false, ltb-true, ltb-false}
use Rattle.text.specs.Parts.{until_byte, LF}
use Rattle.text.specs.Text.{Text}
use Rattle.phrases.specs.Lookup.{book_texts}
use Rattle.phrases.specs.Index.{key, list_of, part_of, last_of, lasts_from, entry, entries_from, index_of, behind, Indexed}
use Rattle.phrases.proofs.BookLines.{book-end, book-last, book-next}
use Rattle.phrases.proofs.Heads.{lasts-length, lasts-at, last-is}

-- ---- an entry's parts

module _ (at before : ℕ) (t : Text) (h : at < 32768) (k : before < 512) where
  pub entry-part : entry at before t / 16777216 ≡ part_of (key t)
  unfolding entry
  entry-part = omega arith

  pub entry-before : entry at before t / 32768 % 512 ≡ before
  unfolding entry
  entry-before = omega arith

  pub entry_at : entry at before t % 32768 ≡ at
  unfolding entry
  entry_at = omega arith

-- ---- the entries of texts

pub behind_more : (at : ℕ) (ts : List Text) (t : Text) → behind at (ts ++ (t ∷ [])) ≡ suc (behind at ts + length t)
unfolding behind
behind_more at [] t = refl
behind_more at (u ∷ ts) t = behind_more (suc (at + length u)) ts t

pub entries-length : (at : ℕ) (earlier ts : List Text) → length (entries_from at earlier ts) ≡ length ts
unfolding entries_from
entries-length at earlier [] = refl
entries-length at earlier (t ∷ ts) = ap suc (entries-length (suc (at + length t)) (earlier ++ (t ∷ [])) ts)

pub entries_at : (at : ℕ) (earlier ts : List Text) (k : ℕ) → k < length ts
    → get_or (entries_from at earlier ts) k 0
    ≡ entry (behind at (take k ts)) (last_of (list_of (key (get_or ts k []))) (earlier ++ take k ts)) (get_or ts k [])
unfolding entries_from behind
entries_at at earlier [] k h = absurd (omega arith)
entries_at at earlier (t ∷ ts) zero h = simp append-nil
entries_at at earlier (t ∷ ts) (suc k) h =
    rw append_snoc at (entries_at (suc (at + length t)) (earlier ++ (t ∷ [])) ts k (omega arith))

-- ---- the numbers of an index

pub index-length : (ts : List Text) → length (index_of ts) ≡ 129 + length ts
unfolding index_of
index-length ts = omega (arith, length-append (lasts_from 0 128 ts) (entries_from 0 [] ts), lasts-length 0 128 ts, entries-length 0 [] ts)

pub index-last : (ts : List Text) (list : ℕ) → list < 128 → get_or (index_of ts) (list + 1) 0 ≡ last_of list ts
unfolding index_of
index-last ts list h =
    let l = lasts-length 0 128 ts in
    rw (add-one list, get_or-append (lasts_from 0 128 ts) (entries_from 0 [] ts) 0 list (omega arith), lasts-at 0 128 ts list h, zero-add)

index-entry : (ts : List Text) (k : ℕ) → get_or (index_of ts) (129 + k) 0 ≡ get_or (entries_from 0 [] ts) k 0
unfolding index_of
index-entry ts k =
    let e : 129 + k ≡ suc (length (lasts_from 0 128 ts) + k) = omega (arith, lasts-length 0 128 ts) in
    rw (e, get_or-append-add (lasts_from 0 128 ts) (entries_from 0 [] ts) k 0)

module _ (index book : List ℕ) (i : Indexed index book) where
  pub index-long : 129 + length (book_texts book) ≤ length index
  index-long =
      let ts = book_texts book in
      omega (arith, index-length ts, ap length i.entries, length-take (length (index_of ts)) index)

  number_at : (n : ℕ) → n < 129 + length (book_texts book) → get_or index n 0 ≡ get_or (index_of (book_texts book)) n 0
  number_at n h =
      let ts = book_texts book in
      sym (get_or-take (length (index_of ts)) index n 0 (omega (arith, index-length ts, h))) ∙ ap (λ l. get_or l n 0) i.entries

  -- as many texts as its first number says
  pub indexed-count : length (book_texts book) ≡ get_or index 0 0
  unfolding index_of
  indexed-count = sym (number_at 0 (omega arith))

  pub last-at : (list : ℕ) → list < 128 → get_or index (list + 1) 0 ≡ last_of list (book_texts book)
  last-at list h = number_at (list + 1) (omega arith) ∙ index-last (book_texts book) list h

-- ---- where text k stands

pub until-within : (x : ℕ) (s : List ℕ) → until_byte x s ≤ length s
unfolding until_byte
until-within x [] = omega arith
until-within x (b ∷ s) = go (eqb b x) (until-within x s)
  where
    go : (v : Bool) → until_byte x s ≤ length s → cond v 0 (suc (until_byte x s)) ≤ suc (length s)
    go true h = omega arith
    go false h = omega arith

-- the line that starts at a has no LF
book-none : (book : List ℕ) (a e : ℕ) → e ≡ a + until_byte LF (drop a book) → length book ≤ e → book_texts (drop a book) ≡ []
book-none book a e k h = go (leb (length book) a) refl
  where
    go : (v : Bool) → leb (length book) a ≡ v → book_texts (drop a book) ≡ []
    go true l = book-end book a (leb-true _ _ l)
    go false l =
        let before : a < length book = leb-false _ _ l in
        book-last book a e k (omega (arith, until-within LF (drop a book), length-drop a book))

pub record Placed (book : List ℕ) (t : Text) (a : ℕ) : Type 0 where
  pub inside : a + length t < length book
  pub stands : take (length t) (drop a book) ≡ t

module _ (book : List ℕ) where
  abbrev line_end : ℕ → ℕ
  line_end a = a + until_byte LF (drop a book)

  line-ends : (a : ℕ) → 0 < length (book_texts (drop a book)) → line_end a < length book
  line-ends a some = go (ltb (line_end a) (length book)) refl
    where
      go : (v : Bool) → ltb (line_end a) (length book) ≡ v → line_end a < length book
      go true e = ltb-true _ _ e
      go false e =
          let none = book-none book a (line_end a) refl (ltb-false _ _ e) in
          absurd (omega (arith, some, ap length none))

  placed-from : (k a : ℕ) → k < length (book_texts (drop a book))
      → Placed book (get_or (book_texts (drop a book)) k []) (behind a (take k (book_texts (drop a book))))
  unfolding behind
  placed-from zero a l =
      let e = line_end a in
      let ends = line-ends a l in
      let next = book-next book a e refl ends in
      let long : length (take (e - a) (drop a book)) ≡ e - a = length-take-le _ _ (omega (arith, length-drop a book)) in
      rw next (record { inside = omega (arith, long, ends); stands = rw long })
  placed-from (suc k) a l =
      let e = line_end a in
      let ends = line-ends a (omega arith) in
      let next = book-next book a e refl ends in
      let long : length (take (e - a) (drop a book)) ≡ e - a = length-take-le _ _ (omega (arith, length-drop a book)) in
      let more : suc (a + length (take (e - a) (drop a book))) ≡ e + 1 = omega arith in
      let rest = placed-from k (e + 1) (omega (arith, l, ap length next)) in
      rw next (subst (λ b. Placed book (get_or (book_texts (drop (e + 1) book)) k []) (behind b (take k (book_texts (drop (e + 1) book))))) (sym more) rest)

  pub text-placed : (k : ℕ) → k < length (book_texts book) → Placed book (get_or (book_texts book) k []) (behind 0 (take k (book_texts book)))
  text-placed k h = placed-from k 0 h

-- ---- what entry k says of text k

pub record Entry (ts : List Text) (k x : ℕ) : Type 0 where
  pub starts : x % 32768 ≡ behind 0 (take k ts)
  pub before : x / 32768 % 512 ≡ last_of (list_of (key (get_or ts k []))) (take k ts)
  pub keyed : x / 16777216 ≡ part_of (key (get_or ts k []))

module _ (index book : List ℕ) (i : Indexed index book) (k : ℕ) (h : k < length (book_texts book)) where
  pub entry-is : Entry (book_texts book) k (get_or index (129 + k) 0)
  entry-is =
      let ts = book_texts book in
      let p = text-placed book k h in
      let at : behind 0 (take k ts) < 32768 = omega (arith, p.inside, i.short) in
      let few : last_of (list_of (key (get_or ts k []))) (take k ts) < 512 =
      omega (arith, (last-is (list_of (key (get_or ts k []))) ts k (omega arith)).bound, i.few) in
      let is = number_at index book i (129 + k) (omega arith) ∙ index-entry ts k ∙ entries_at 0 [] ts k h in
      rw is (record { starts = entry_at _ _ _ at few; before = entry-before _ _ _ at few; keyed = entry-part _ _ _ at few })

  -- text k ends before the next one starts, and the last before the book's end
  next-behind : behind 0 (take (suc k) (book_texts book)) ≡ suc (behind 0 (take k (book_texts book)) + length (get_or (book_texts book) k []))
  next-behind = rw (take-suc (book_texts book) k [] h, behind_more)

  pub ends_last : length (book_texts book) ≤ k + 1 → length book ≡ suc (behind 0 (take k (book_texts book)) + length (get_or (book_texts book) k []))
  ends_last l =
      let is : suc k ≡ length (book_texts book) = omega arith in
      let all : take (suc k) (book_texts book) ≡ book_texts book = rw is (take-length (book_texts book)) in
      sym i.whole ∙ ap (behind 0) (sym all) ∙ next-behind

pub ends_next : (index book : List ℕ) → Indexed index book → (k : ℕ) → k + 1 < length (book_texts book)
    → get_or index (130 + k) 0 % 32768 ≡ suc (behind 0 (take k (book_texts book)) + length (get_or (book_texts book) k []))
ends_next index book i k h =
    let e : 130 + k ≡ 129 + suc k = omega arith in
    rw e ((entry-is index book i (suc k) (omega arith)).starts ∙ next-behind index book i k (omega arith))

-- the link behind the text of the number `next`
pub link-is : (index book : List ℕ) → Indexed index book → (next : ℕ) → 0 < next → next ≤ length (book_texts book)
    → get_or index (128 + next) 0 / 32768 % 512 ≡ last_of (list_of (key (get_or (book_texts book) (next - 1) []))) (take (next - 1) (book_texts book))
link-is index book i next some h =
    let e : 128 + next ≡ 129 + (next - 1) = omega arith in
    rw e (entry-is index book i (next - 1) (omega arith)).before

pub link-falls : (index book : List ℕ) → Indexed index book → (next : ℕ) → 0 < next → next ≤ length (book_texts book)
    → get_or index (128 + next) 0 / 32768 % 512 < next
link-falls index book i next some h =
    let ts = book_texts book in
    omega (arith, link-is index book i next some h, (last-is (list_of (key (get_or ts (next - 1) []))) ts (next - 1) (omega arith)).bound)
