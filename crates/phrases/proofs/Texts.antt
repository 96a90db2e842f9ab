-- The texts where they stand are the phrases: those of an accepted book, and the own phrases.
use Prim.Native.Nat.{ℕ, zero, suc, ◌+◌, ◌<◌}
use native.Mathlib.Omega.{arith}
use native.Mathlib.Numerals.{add-one}
use mathlib.Core.Path.{◌≡◌, refl, sym, ap, subst, ◌∙◌}
use mathlib.Core.List.{List, [], ◌∷◌, ◌++◌, map-append, append-nil}
use mathlib.Core.Bool.{Bool, true, false}
use lib.ListN.{length, get_or, take, get_or-map}
use lib.Seq.{take-suc, get_or-take, append_snoc}
use Rattle.causes.specs.Answers.{Result, made, refused}
use Rattle.causes.specs.declared.Cause.TheVariants.{Book}
use Rattle.text.specs.Parts.{split, LF}
use Rattle.text.specs.Text.{Text}
use Rattle.phrases.specs.Book.{is_next, phrases_from, book_phrases}
use Rattle.phrases.specs.Lookup.{ended, book_texts, phrase_text, own_texts, phrase_in}

-- ---- of a book

-- what the check of a book with these texts finds
abbrev pub Checks : List Text → Result (List Text) → Type 0
Checks ts (made us) = ts ≡ us
Checks ts (refused cause line) = cause ≡ Book

lines-check : (earlier ls : List Text) → Checks (earlier ++ ended ls) (phrases_from earlier ls)
unfolding phrases_from ended
lines-check earlier [] = append-nil earlier
lines-check earlier ([] ∷ []) = append-nil earlier
lines-check earlier ((b ∷ t) ∷ []) = refl
lines-check earlier (t ∷ u ∷ ls) = go (is_next earlier t) (lines-check (earlier ++ (t ∷ [])) (u ∷ ls))
  where
    go : (b : Bool) → Checks (earlier ++ (t ∷ []) ++ ended (u ∷ ls)) (phrases_from (earlier ++ (t ∷ [])) (u ∷ ls))
        → Checks (earlier ++ t ∷ ended (u ∷ ls))
        (elim b [ true ↦ phrases_from (earlier ++ (t ∷ [])) (u ∷ ls) | false ↦ refused Book (suc (length earlier)) ])
    go true h = rw append_snoc at h
    go false h = refl

module _ (book : List ℕ) where
  pub book-checks : Checks (book_texts book) (book_phrases book)
  unfolding book_texts book_phrases
  book-checks = lines-check [] (split LF book)

  pub book-texts : (ts : List Text) → book_phrases book ≡ made ts → book_texts book ≡ ts
  book-texts ts h = subst (Checks (book_texts book)) h book-checks

-- ---- of the own phrases

-- one line more
pub own-texts-more : (k : ℕ) (own : List ℕ) → k < length (split LF own)
    → own_texts (k + 1) own ≡ own_texts k own ++ (phrase_text (get_or (split LF own) k []) ∷ [])
unfolding own_texts
own-texts-more k own h = rw (add-one, take-suc (split LF own) k [] h, map-append)

-- ---- the phrase at a place

module _ (book own : List ℕ) (i : ℕ) where
  pub phrase-in-own : (k : ℕ) → i < k → phrase_in book own true i ≡ get_or (own_texts k own) i []
  unfolding phrase_in own_texts split
  phrase-in-own k h = sym (get_or-map phrase_text (take k (split LF own)) i [] ∙ ap phrase_text (get_or-take k (split LF own) i [] h))

  pub phrase-in-book : i < length (book_texts book) → phrase_in book own false i ≡ get_or (book_texts book) i []
  unfolding phrase_in book_texts ended
  phrase-in-book h = go (split LF book) i h
    where
      go : (ls : List Text) (j : ℕ) → j < length (ended ls) → get_or ls j [] ≡ get_or (ended ls) j []
      go [] j l = absurd (omega arith)
      go (t ∷ []) j l = absurd (omega arith)
      go (t ∷ u ∷ ls) zero l = refl
      go (t ∷ u ∷ ls) (suc j) l = go (u ∷ ls) j (omega arith)
