-- The phrases of an accepted book are good, and at most 256.
use Prim.Native.Nat.{ℕ, suc, ◌≤◌, ◌<◌}
use mathlib.Core.Path.{◌≡◌, refl, subst}
use mathlib.Core.List.{List, [], ◌∷◌, ◌++◌, append-nil}
use mathlib.Core.Bool.{Bool, true, false, ◌&&◌}
use native.Mathlib.Omega.{arith}
use lib.ListN.{length, length-append}
use lib.Seq.{append_snoc}
use lib.Dec.{ltb}
use borrow.Author.Tests.{ltb-true}
use Rattle.causes.specs.Answers.{Result, made, refused}
use Rattle.causes.specs.declared.Cause.TheVariants.{Book}
use Rattle.text.specs.Parts.{split, LF}
use Rattle.text.specs.Text.{Text, is_text}
use Rattle.text.proofs.Valid.{TextOk}
use Rattle.phrases.specs.Phrases.{is_new}
use Rattle.phrases.specs.Book.{is_next, phrases_from, book_phrases}
use Rattle.phrases.proofs.Valid.{PhrasesOk, BookOk}
use Rattle.text.proofs.Tests.{and_parts}

-- good phrases behind good phrases
pub phrases-more : (book earlier ts : List Text) (t : Text) → PhrasesOk book earlier ts → TextOk t
    → is_new book (earlier ++ ts) t ≡ true → PhrasesOk book earlier (ts ++ (t ∷ []))
phrases-more book earlier [] t ok h k = (h, rw append-nil at k, tt)
phrases-more book earlier (u ∷ ts) t ok h k =
    (ok.0, ok.1, phrases-more book (earlier ++ (u ∷ [])) ts t ok.2 h (rw append_snoc k))

-- what a book's answer says of the phrases in it
abbrev Good : Result (List Text) → Type 0
Good (made book) = BookOk book × (length book ≤ 256)
Good (refused cause line) = Unit

good-from : (earlier ts : List Text) → BookOk earlier → length earlier ≤ 256 → Good (phrases_from earlier ts)
unfolding phrases_from
good-from earlier [] ok h = (ok, h)
good-from earlier ([] ∷ []) ok h = (ok, h)
good-from earlier ((b ∷ t) ∷ []) ok h = tt
good-from earlier (t ∷ u ∷ ts) ok h = go (is_next earlier t) refl (good-from (earlier ++ (t ∷ [])) (u ∷ ts))
  where
    go : (b : Bool) → is_next earlier t ≡ b
        → (BookOk (earlier ++ (t ∷ [])) → length (earlier ++ (t ∷ [])) ≤ 256 → Good (phrases_from (earlier ++ (t ∷ [])) (u ∷ ts)))
        → Good (elim b [ true ↦ phrases_from (earlier ++ (t ∷ [])) (u ∷ ts) | false ↦ refused Book (suc (length earlier)) ])
    go true e more =
        let tests = and_parts (is_text t && is_new [] earlier t) (ltb (length earlier) 256) e in
        let new = and_parts (is_text t) (is_new [] earlier t) tests.0 in
        let few : length earlier < 256 = ltb-true _ _ tests.1 in
        more (phrases-more [] [] earlier t ok new.0 new.1) (simp length-append (omega arith))
    go false e more = tt

pub book-ok : (text : List ℕ) (book : List Text) → book_phrases text ≡ made book → BookOk book × (length book ≤ 256)
unfolding book_phrases
book-ok text book e = subst Good e (good-from [] (split LF text) tt (omega arith))
