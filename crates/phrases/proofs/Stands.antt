-- A phrase of good phrases is found where it stands, and what is found stands there.
use Prim.Native.Nat.{ℕ, zero, suc, ◌+◌, ◌<◌}
use mathlib.Core.Path.{◌≡◌, refl, sym, ap, ◌∙◌}
use mathlib.Core.List.{List, [], ◌∷◌, ◌++◌}
use mathlib.Core.Bool.{Bool, true, false, cond, false≢true}
use Rattle.std.specs.Prelude.{Option, None, Some}
use native.Mathlib.Nat.{zero-add}
use native.Mathlib.Omega.{arith}
use lib.ListN.{length, get_or, length-append}
use lib.Seq.{append_snoc}
use Rattle.text.specs.Parts.{same}
use Rattle.text.specs.Text.{Text}
use Rattle.text.proofs.Valid.{TextOk}
use Rattle.phrases.specs.Phrases.{
  Phrases,
  Where,
  in_book,
  in_own,
  nowhere,
  one_more,
  place,
  book_first,
  find,
  is_nowhere,
  is_new,
}
use Rattle.phrases.proofs.Valid.{PhrasesOk, BookOk}
use Rattle.text.proofs.Tests.{same-equal, same_self}

-- the text t stands at this place of the texts, if there is a place
abbrev pub Stands : List Text → Text → Option ℕ → Type 0
Stands ts t None = Unit
Stands ts t (Some i) = (i < length ts) × (get_or ts i [] ≡ t)

pub place-stands : (ts : List Text) (t : Text) → Stands ts t (place ts t)
unfolding place
place-stands [] t = tt
place-stands (p ∷ ps) t = go (same t p) refl (place ps t) (place-stands ps t)
  where
    go : (b : Bool) → same t p ≡ b → (o : Option ℕ) → Stands ps t o → Stands (p ∷ ps) t (cond b (Some 0) (one_more o))
    go true e o h = (omega arith, sym (same-equal t p e))
    go false e None h = tt
    go false e (Some i) h = (omega arith, h.1)

pub not_first : (b : Bool) (o : Option ℕ) → cond b (Some 0) (one_more o) ≡ None → (b ≡ false) × (o ≡ None)
not_first true o h = cc
not_first false None h = (refl, refl)
not_first false (Some i) h = cc

-- a text that is not among the earlier ones is found behind them
place-new : (earlier ts : List Text) (t : Text) → place earlier t ≡ None → place (earlier ++ (t ∷ ts)) t ≡ Some (length earlier)
unfolding place
place-new [] ts t h = rw same_self
place-new (p ∷ earlier) ts t h =
    let other = not_first (same t p) (place earlier t) h in
    rw (other.0, place-new earlier ts t other.1)

not_found : (x y : Option ℕ) → is_nowhere (book_first x y) ≡ true → (x ≡ None) × (y ≡ None)
not_found (Some i) y h = absurd (false≢true h)
not_found None (Some i) h = absurd (false≢true h)
not_found None None h = (refl, refl)

-- a new text is in neither list
pub new-nowhere : (book own : List Text) (t : Text) → is_new book own t ≡ true → (place book t ≡ None) × (place own t ≡ None)
unfolding find
new-nowhere book own t h = not_found (place book t) (place own t) h

-- behind the earlier ones, each good phrase is a text, is not in the book and is found at its own place
module _ (book : List Text) where
  placed : (earlier ts : List Text) → PhrasesOk book earlier ts → (i : ℕ) → i < length ts
      → TextOk (get_or ts i []) × (place book (get_or ts i []) ≡ None) × (place (earlier ++ ts) (get_or ts i []) ≡ Some (length earlier + i))
  placed earlier [] ok i h = absurd (omega arith)
  placed earlier (t ∷ ts) ok zero h =
      let new = new-nowhere book earlier t ok.1 in
      (ok.0, new.0, place-new earlier ts t new.1 ∙ ap Some (omega arith))
  placed earlier (t ∷ ts) ok (suc i) h =
      let behind = placed (earlier ++ (t ∷ [])) ts ok.2 i (omega arith) in
      (behind.0, behind.1, rw append_snoc at behind.2 ∙ ap Some (simp length-append (omega arith)))

  pub phrase-is-text : (earlier ts : List Text) → PhrasesOk book earlier ts → (i : ℕ) → i < length ts → TextOk (get_or ts i [])
  phrase-is-text earlier ts ok i h = (placed earlier ts ok i h).0

  pub found-in-own : (own : List Text) → PhrasesOk book [] own → (i : ℕ) → i < length own
      → find (record { book = book; own = own }) (get_or own i []) ≡ in_own i
  unfolding find
  found-in-own own ok i h = let p = placed [] own ok i h in rw (p.1, p.2, zero-add)

pub found-in-book : (book own : List Text) → BookOk book → (i : ℕ) → i < length book
    → find (record { book = book; own = own }) (get_or book i []) ≡ in_book i
unfolding find
found-in-book book own ok i h = let p = placed [] [] book ok i h in rw (p.2, zero-add)

-- what is found stands where it was found
abbrev pub Finds : Phrases → Text → Where → Type 0
Finds c t (in_book i) = Stands c.book t (Some i)
Finds c t (in_own i) = Stands c.own t (Some i)
Finds c t nowhere = Unit

pub find-stands : (c : Phrases) (t : Text) → Finds c t (find c t)
unfolding find
find-stands c t = go (place c.book t) (place c.own t) (place-stands c.book t) (place-stands c.own t)
  where
    go : (x y : Option ℕ) → Stands c.book t x → Stands c.own t y → Finds c t (book_first x y)
    go (Some i) y hx hy = hx
    go None (Some i) hx hy = hy
    go None None hx hy = tt

-- a new text is found nowhere
pub new-found : (book own : List Text) (t : Text) → is_new book own t ≡ true → find (record { book = book; own = own }) t ≡ nowhere
unfolding find
new-found book own t h = rw ((new-nowhere book own t h).0, (new-nowhere book own t h).1)
