-- What an answer says of what was looked for.
use Prim.Native.Nat.{ℕ}
use mathlib.Core.Path.{◌≡◌, refl, sym, ap, ◌∙◌}
use mathlib.Core.List.{List}
use lib.ListN.{length}
use Rattle.std.specs.Prelude.{Option, Some, None, is_none, Result, Ok, Err}
use Rattle.causes.specs.Answers as answers
use Rattle.causes.specs.Answers.{made, refused}
use Rattle.causes.specs.declared.Refusal.{Refusal}
use Rattle.text.specs.Text.{Text}
use Rattle.phrases.specs.Phrases.{Phrases, Where, in_book, in_own, nowhere, find, is_nowhere}
use Rattle.phrases.specs.Book.{book_phrases}
use Rattle.phrases.specs.Lookup.{book_texts, book_answer, found_answer}
use Rattle.phrases.specs.Index.{book_check}
use Rattle.phrases.specs.declared.Found.{Found}
use Rattle.phrases.specs.declared.Found.TheVariants.{InBook, InOwn}
use Rattle.phrases.proofs.Texts.{Checks, book-checks}

-- ---- of the lookup

abbrev pub where_of : Option Found → Where
where_of (Some (InBook i)) = in_book i
where_of (Some (InOwn i)) = in_own i
where_of None = nowhere

pub found-is : (c : Phrases) (t : Text) {f : Option Found} → found_answer (find c t) ≡ f → find c t ≡ where_of f
found-is c t h = go (find c t) ∙ ap where_of h
  where
    go : (w : Where) → w ≡ where_of (found_answer w)
    go (in_book i) = refl
    go (in_own i) = refl
    go nowhere = refl

-- whether nothing is found
pub found-new : (c : Phrases) (t : Text) {f : Option Found} → found_answer (find c t) ≡ f → is_nowhere (find c t) ≡ is_none f
found-new c t h = go (find c t) ∙ ap is_none h
  where
    go : (w : Where) → is_nowhere w ≡ is_none (found_answer w)
    go (in_book i) = refl
    go (in_own i) = refl
    go nowhere = refl

-- ---- of the book's check

abbrev pub result_of : List Text → Result ℕ Refusal → answers.Result (List Text)
result_of ts (Ok n) = made ts
result_of ts (Err r) = refused r.cause r.place

-- the check's answer, beside the index that it leaves
pub answer-is : (b index : List ℕ) {last : List ℕ} {r : Result ℕ Refusal} → (r, last) ≡ book_check b index → r ≡ book_answer (book_phrases b)
answer-is b index e = ap (λ (p : Result ℕ Refusal × List ℕ). p.0) e

module _ (b : List ℕ) where
  pub book-is : {r : Result ℕ Refusal} → book_answer (book_phrases b) ≡ r → book_phrases b ≡ result_of (book_texts b) r
  book-is h = go (book_phrases b) (book-checks b) ∙ ap (result_of (book_texts b)) h
    where
      go : (r : answers.Result (List Text)) → Checks (book_texts b) r → r ≡ result_of (book_texts b) (book_answer r)
      go (made ts) e = ap made (sym e)
      go (refused cause line) e = refl

  pub book-count-is : {n : ℕ} → book_answer (book_phrases b) ≡ Ok n → n ≡ length (book_texts b)
  book-count-is {n} h =
      let e : Result.Ok n ≡ Ok (length (book_texts b)) = sym h ∙ ap book_answer (book-is h) in cc
