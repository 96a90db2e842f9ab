-- A book's check, one line on.
use Prim.Native.Nat.{ℕ, suc, ◌+◌, ◌-◌, ◌≤◌, ◌<◌}
use native.Mathlib.Omega.{arith}
use mathlib.Core.Path.{◌≡◌, refl, sym, ap}
use mathlib.Core.List.{List, []}
use mathlib.Core.Bool.{Bool, true, false, not, ◌&&◌, and-false}
use Rattle.std.specs.Prelude.{Option, Some, None, is_some, Ok, Err}
use lib.ListN.{length, take, drop, drop_of_length-le, length-append}
use lib.Seq.{drop-cons}
use lib.Dec.{ltb}
use borrow.Author.Tests.{lt-ltb, le-ltb, ltb-true}
use Rattle.text.proofs.Tests.{and_parts}
use Rattle.text.proofs.Bytes.{text-size}
use Rattle.text.specs.Parts.{split, until_byte, LF}
use Rattle.text.specs.Text.{Text, is_text}
use Rattle.text.proofs.Places.{part-first, part-last}
use Rattle.text.proofs.Splits.{split-some}
use Rattle.phrases.specs.Phrases.{place, find, is_new}
use Rattle.phrases.specs.Book.{is_next, phrases_from, book_phrases, good_from, good_texts}
use Rattle.phrases.specs.Lookup.{ended, book_texts, book_answer}
use Rattle.causes.specs.declared.Cause.TheVariants.{Book}
use Rattle.causes.specs.declared.Refusal.{Refusal}
use Rattle.phrases.proofs.Stands.{new-nowhere}
use Rattle.phrases.proofs.BookLines.{Whole, whole-none, front-texts, whole-next}

-- ---- whether a line is good behind the earlier ones

module _ (earlier : List Text) (t : Text) where
  pub next-full : 256 ≤ length earlier → is_next earlier t ≡ false
  next-full h = rw (le-ltb (length earlier) 256 h, and-false (is_text t && is_new [] earlier t))

  pub next-no-text : is_text t ≡ false → is_next earlier t ≡ false
  next-no-text h = rw h

  next-repeated : {i : ℕ} → is_text t ≡ true → place earlier t ≡ Some i → is_next earlier t ≡ false
  unfolding find place
  next-repeated h k = rw (h, k)

  next-good : length earlier < 256 → is_text t ≡ true → place earlier t ≡ None → is_next earlier t ≡ true
  unfolding find place
  next-good l h k = rw (lt-ltb (length earlier) 256 l, h, k)

  -- by what the search for the line finds
  pub next-found : length earlier < 256 → is_text t ≡ true → (b : Bool) → is_some (place earlier t) ≡ not b → b ≡ is_next earlier t
  next-found l h b e = go (place earlier t) refl b e
    where
      go : (o : Option ℕ) → place earlier t ≡ o → (b : Bool) → is_some o ≡ not b → b ≡ is_next earlier t
      go None k true e = sym (next-good l h k)
      go None k false e = cc
      go (Some i) k true e = cc
      go (Some i) k false e = sym (next-repeated h k)

  -- a good line has at most 64 bytes, and there are fewer than 256 before it
  pub next_small : is_next earlier t ≡ true → (length t ≤ 64) × (length earlier < 256)
  next_small h =
      let tests = and_parts (is_text t && is_new [] earlier t) (ltb (length earlier) 256) h in
      ((text-size t (and_parts (is_text t) (is_new [] earlier t) tests.0).0).1, ltb-true _ _ tests.1)

  -- a good line is none of those before it
  pub next-new : is_next earlier t ≡ true → place earlier t ≡ None
  next-new h =
      let tests = and_parts (is_text t && is_new [] earlier t) (ltb (length earlier) 256) h in
      (new-nowhere [] earlier t (and_parts (is_text t) (is_new [] earlier t) tests.0).1).1

-- the refusal of a book, by its first bad line
abbrev pub bad_line : ℕ → Refusal
bad_line n = record { cause = Book; place = n }

-- ---- the lines before the place a are n good lines

pub record GoodLines (s : List ℕ) (a n : ℕ) : Type 0 where
  pub whole : Whole (take a s)
  pub count : n ≡ length (book_texts (take a s))
  pub rest : book_phrases s ≡ phrases_from (book_texts (take a s)) (split LF (drop a s))
  pub good : good_texts s ≡ good_from (book_texts (take a s)) (split LF (drop a s))

pub good_none : (s : List ℕ) → GoodLines s 0 0
unfolding book_phrases good_texts book_texts ended split
good_none s = record { whole = whole-none; count = refl; rest = refl; good = refl }

module _ (s : List ℕ) (a n : ℕ) (g : GoodLines s a n) where
  pub good-end : length s ≤ a → book_answer (book_phrases s) ≡ Ok n
  unfolding phrases_from split
  good-end h = rw (g.rest, drop_of_length-le s h) (ap (λ m. Ok m) (sym g.count))

  pub good-texts-end : length s ≤ a → good_texts s ≡ book_texts (take a s)
  unfolding good_from split
  good-texts-end h = rw (g.good, drop_of_length-le s h)

  -- the line that starts at a ends at e
  module _ (e : ℕ) (k : e ≡ a + until_byte LF (drop a s)) where
    pub last-bad : a < length s → e ≡ length s → book_answer (book_phrases s) ≡ Err (bad_line (n + 1))
    unfolding phrases_from
    last-bad h l =
        let m : e - a ≡ suc (e - (a + 1)) = omega arith in
        rw (g.rest, part-last LF s a e k l, m, drop-cons s a 0 h) (ap (λ m. Err (bad_line m)) (omega (arith, g.count)))

    pub good-texts-last : e ≡ length s → good_texts s ≡ book_texts (take a s)
    unfolding good_from
    good-texts-last l = rw (g.good, part-last LF s a e k l)

    module _ (h : e < length s) where
      pub line-bad : is_next (book_texts (take a s)) (take (e - a) (drop a s)) ≡ false → book_answer (book_phrases s) ≡ Err (bad_line (n + 1))
      unfolding phrases_from
      line-bad b =
          rw (g.rest, part-first LF s a e k h, (split-some LF (drop (e + 1) s)).2, b, phrases_from) (ap (λ m. Err (bad_line m)) (omega (arith, g.count)))

      pub good-texts-bad : is_next (book_texts (take a s)) (take (e - a) (drop a s)) ≡ false → good_texts s ≡ book_texts (take a s)
      unfolding good_from
      good-texts-bad b = rw (g.good, part-first LF s a e k h, (split-some LF (drop (e + 1) s)).2, b, good_from)

      pub line-good : is_next (book_texts (take a s)) (take (e - a) (drop a s)) ≡ true → GoodLines s (e + 1) (n + 1)
      unfolding phrases_from good_from
      line-good b =
          let f = front-texts s a e k h g.whole in
          record {
            whole = whole-next s a e k h g.whole;
            count = rw (f, length-append) (omega (arith, g.count));
            rest = rw (f, g.rest, part-first LF s a e k h, (split-some LF (drop (e + 1) s)).2, b, phrases_from);
            good = rw (f, g.good, part-first LF s a e k h, (split-some LF (drop (e + 1) s)).2, b, good_from);
          }
