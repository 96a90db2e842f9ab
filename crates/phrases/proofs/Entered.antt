-- The index that the check of a book has made: of no texts, and of one text more.
use Prim.Native.Nat.{ℕ, zero, suc, ◌+◌, ◌-◌, ◌*◌, ◌≤◌, ◌<◌}
use native.Mathlib.Omega.{arith}
use native.Mathlib.Nat.{zero-add}
use native.Mathlib.Numerals.{add-one}
use mathlib.Core.Path.{◌≡◌, refl, sym, ap, subst, ◌∙◌}
use mathlib.Core.List.{List, [], ◌∷◌, ◌++◌, append-nil, append_assoc}
use Rattle.std.specs.Prelude.{None}
use lib.ListN.{length, take, drop, get_or, set, length-set, length-drop, length-append, replicate, get_or-replicate}
use lib.Seq.{length-take-le, take_all, take-append_seam, set-append_left}
use Rattle.output.specs.Pour.{pour}
use Rattle.output.proofs.Pour.{pour-none, pour-one, pour-then, pour-fits, pour-length}
use Rattle.text.specs.Parts.{split}
use Rattle.text.specs.Text.{Text}
use Rattle.phrases.specs.Phrases.{place}
use Rattle.phrases.specs.Book.{good_texts}
use Rattle.phrases.specs.Lookup.{ended, book_texts}
use Rattle.phrases.specs.Index.{key, list_of, part_of, last_from, last_of, lasts_from, entry, entries_from, index_of, behind, Different, Indexed}
use Rattle.phrases.proofs.Heads.{lasts-length, lasts-more, last-whole}
use Rattle.phrases.proofs.Keys.{different-none, different-more}
use Rattle.phrases.proofs.Entries.{index-length, last-at, behind_more}

-- ---- writing at the front

-- a change of what is written
pour-set : (new old : List ℕ) (k v : ℕ) → k < length new → set (pour 0 new old) k v ≡ pour 0 (set new k v) old
unfolding pour
pour-set [] old k v h = absurd (omega arith)
pour-set (a ∷ new) [] k v h = refl
pour-set (a ∷ new) (b ∷ old) zero v h = refl
pour-set (a ∷ new) (b ∷ old) (suc k) v h = ap (◌∷◌ a) (pour-set new old k v (omega arith))

-- what is written over something shorter
pub pour-over : (first new old : List ℕ) → length first ≤ length new → pour 0 new (pour 0 first old) ≡ pour 0 new old
unfolding pour
pour-over [] new old h = ap (pour 0 new) (pour-none 0 old)
pour-over (a ∷ first) [] old h = absurd (omega arith)
pour-over (a ∷ first) (b ∷ new) [] h = refl
pour-over (a ∷ first) (b ∷ new) (c ∷ old) h = ap (◌∷◌ b) (pour-over first new old (omega arith))

-- ---- no texts

pub none-zeros : (list n : ℕ) → lasts_from list n [] ≡ replicate n 0
unfolding lasts_from last_from
none-zeros list zero = refl
none-zeros list (suc n) = ap (◌∷◌ 0) (none-zeros (suc list) n)

pub none-zero : (k : ℕ) → k < 129 → get_or (index_of []) k 0 ≡ 0
unfolding index_of entries_from
none-zero zero h = refl
none-zero (suc k) h = rw (append-nil (lasts_from 0 128 []), none-zeros 0 128) (get_or-replicate 128 k 0 0 (omega arith))

-- ---- one text more

entries-more : (at : ℕ) (earlier ts : List Text) (t : Text)
    → entries_from at earlier (ts ++ (t ∷ []))
    ≡ entries_from at earlier ts ++ (entry (behind at ts) (last_of (list_of (key t)) (earlier ++ ts)) t ∷ [])
unfolding entries_from behind
entries-more at earlier [] t = rw append-nil
entries-more at earlier (u ∷ ts) t =
    ap (◌∷◌ (entry at (last_of (list_of (key u)) earlier) u)) (rw append_assoc at (entries-more (suc (at + length u)) (earlier ++ (u ∷ [])) ts t))

module _ (ts : List Text) (t : Text) where
  abbrev new_entry : ℕ
  new_entry = entry (behind 0 ts) (last_of (list_of (key t)) ts) t

  index-more : index_of (ts ++ (t ∷ []))
      ≡ set (set (index_of ts) 0 (length ts + 1)) (list_of (key t) + 1) (length ts + 1) ++ (new_entry ∷ [])
  unfolding index_of
  index-more =
      let list = list_of (key t) in
      let lasts = lasts-more 0 128 ts t list (omega arith) (omega arith) in
      let l = lasts-length 0 128 ts in
      rw (length-append, add-one, add-one, lasts, entries-more 0 [] ts t, set-append_left (lasts_from 0 128 ts) (entries_from 0 [] ts) list (suc (length ts)) (omega arith), append_assoc)

  pub poured-more : (old : List ℕ)
      → pour 0 (index_of (ts ++ (t ∷ []))) old
      ≡ set (set (set (pour 0 (index_of ts) old) 0 (length ts + 1)) (list_of (key t) + 1) (length ts + 1)) (129 + length ts) new_entry
  poured-more old =
      let list = list_of (key t) in
      let one = set (index_of ts) 0 (length ts + 1) in
      let two = set one (list + 1) (length ts + 1) in
      let long : length two ≡ 129 + length ts = simp length-set (index-length ts) in
      let first = pour-set (index_of ts) old 0 (length ts + 1) (omega (arith, index-length ts)) in
      let second = pour-set one old (list + 1) (length ts + 1) (omega (arith, index-length ts, length-set (index_of ts) 0 (length ts + 1))) in
      let then = rw (zero-add, long) at (pour-then 0 two (new_entry ∷ []) old) in
      rw (index-more, first, second) (sym then ∙ pour-one (129 + length ts) new_entry (pour 0 two old))

-- ---- the check of a book so far: the lines before the place a are n good lines, and there is an index of them

pub record Entered (index old book : List ℕ) (a n : ℕ) : Type 0 where
  pub numbers : index ≡ pour 0 (index_of (book_texts (take a book))) old
  pub different : Different (book_texts (take a book))
  pub place : behind 0 (book_texts (take a book)) ≡ a
  pub short : a ≤ 65 * n

pub entered-none : (index old book : List ℕ) → index ≡ pour 0 (index_of []) old → Entered index old book 0 0
unfolding behind book_texts ended split
entered-none index old book e = record { numbers = e; different = different-none; place = refl; short = omega arith }

-- numbers that are the index of no texts already
pub cleared : (index old : List ℕ) → index ≡ pour 0 (index_of []) old → index ≡ pour 0 (index_of []) index
cleared index old e = e ∙ sym (pour-over (index_of []) (index_of []) old (omega arith)) ∙ ap (pour 0 (index_of [])) (sym e)

pub entered-length : (index old book : List ℕ) (a n : ℕ) → Entered index old book a n → length index ≡ length old
entered-length index old book a n e = ap length e.numbers ∙ pour-length 0 (index_of (book_texts (take a book))) old

module _ (index old book : List ℕ) (a n : ℕ) (e : Entered index old book a n) (count : n ≡ length (book_texts (take a book))) (m : n ≤ 256) (l : 385 ≤ length old) (h : a ≤ length book) where
  pub entered-indexed : Indexed index (take a book)
  entered-indexed =
      let ts = book_texts (take a book) in
      let fits = pour-fits (index_of ts) old (omega (arith, index-length ts)) in
      record {
        entries = rw (e.numbers, fits) (take-append_seam (index_of ts) (drop (length (index_of ts)) old));
        different = e.different;
        few = omega arith;
        whole = e.place ∙ sym (length-take-le a book h);
        short = rw (length-take-le a book h) (omega (arith, e.short));
      }

  -- the link to the text before is a number of a text
  pub before_small : (list : ℕ) → list < 128 → get_or index (list + 1) 0 < 512
  before_small list k =
      let ts = book_texts (take a book) in
      omega (arith, last-at index (take a book) entered-indexed list k, (last-whole list ts).bound)

  -- one line more, which ends at b, and its entry
  pub entered-more : (b : ℕ) (last : List ℕ) → length (take (b - a) (drop a book)) ≤ 64 → a ≤ b → b < length book
      → place (book_texts (take a book)) (take (b - a) (drop a book)) ≡ None
      → last ≡ set (set (set index 0 (n + 1)) (list_of (key (take (b - a) (drop a book))) + 1) (n + 1)) (129 + n) ((part_of (key (take (b - a) (drop a book))) * 512 + get_or index (list_of (key (take (b - a) (drop a book))) + 1) 0) * 32768 + a)
      → book_texts (take (b + 1) book) ≡ book_texts (take a book) ++ (take (b - a) (drop a book) ∷ [])
      → Entered last old book (b + 1) (n + 1)
  unfolding entry
  entered-more b last small order within new is texts =
      let t = take (b - a) (drop a book) in
      let ts = book_texts (take a book) in
      let long : length t ≡ b - a = length-take-le _ _ (omega (arith, length-drop a book)) in
      let before : get_or index (list_of (key t) + 1) 0 ≡ last_of (list_of (key t)) ts = last-at index (take a book) entered-indexed (list_of (key t)) (omega arith) in
      record {
        numbers = is ∙ (rw (before, texts, poured-more, e.place, count, ← e.numbers) refl);
        different = rw texts (different-more ts t e.different new);
        place = rw (texts, behind_more, e.place, long) (omega arith);
        short = omega (arith, e.short, long, small);
      }

-- ---- the answers

-- what the check leaves, behind numbers that were the index of no texts
pub left_is : (index first old book : List ℕ) (a n : ℕ) → Entered index first book a n → first ≡ pour 0 (index_of []) old
    → good_texts book ≡ book_texts (take a book) → index ≡ pour 0 (index_of (good_texts book)) old
left_is index first old book a n e is good =
    let ts = book_texts (take a book) in
    rw good (e.numbers ∙ ap (pour 0 (index_of ts)) is ∙ pour-over (index_of []) (index_of ts) old (omega (arith, index-length [], index-length ts)))

-- the lines of the whole book
pub indexed-whole : (index book : List ℕ) (a : ℕ) → Indexed index (take a book) → length book ≤ a → Indexed index book
indexed-whole index book a i h = subst (Indexed index) (take_all a book h) i
