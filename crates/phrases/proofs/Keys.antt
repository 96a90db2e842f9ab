-- A text looked for along the links of its list, among different texts.
use Prim.Native.Nat.{ℕ, zero, suc, ◌-◌, ◌≤◌, ◌<◌}
use native.Mathlib.Omega.{arith}
use mathlib.Core.Path.{◌≡◌, refl, sym, ap, ◌∙◌}
use mathlib.Core.List.{List, [], ◌∷◌, ◌++◌}
use mathlib.Core.Bool.{Bool, true, false, true≢false}
use Rattle.std.specs.Prelude.{None, Some}
use lib.ListN.{length, take, get_or, length-append, get_or-append}
use lib.Seq.{get_or-append_seam}
use lib.Dec.{eqb, ltb}
use borrow.Author.Tests.{eqb-true, eqb-false, ltb-true, ltb-false}
use Rattle.text.specs.Parts.{same}
use Rattle.text.specs.Text.{Text}
use Rattle.text.proofs.Tests.{same-equal, same-when, same-other}
use Rattle.phrases.specs.Phrases.{place}
use Rattle.phrases.specs.Index.{key, list_of, last_of, Different}
use Rattle.phrases.proofs.Stands.{not_first}
use Rattle.phrases.proofs.Heads.{Last, last-is, last-whole}

-- ---- texts that differ

pub other_key : (t p : Text) → (key t ≡ key p → ⊥) → same t p ≡ false
other_key t p h = same-other t p (λ e. h (ap key e))

other_way : (t p : Text) → same t p ≡ false → same p t ≡ false
other_way t p h = same-other p t (λ e. true≢false (sym (same-when t p (sym e)) ∙ h))

-- ---- the place of a text, by what holds of each text

pub place-absent : (ts : List Text) (t : Text) → ((j : ℕ) → j < length ts → same t (get_or ts j []) ≡ false) → place ts t ≡ None
unfolding place
place-absent [] t h = refl
place-absent (p ∷ ts) t h = rw (h 0 (omega arith), place-absent ts t (λ j l. h (suc j) (omega arith)))

pub place-first : (ts : List Text) (t : Text) (k : ℕ) → k < length ts → same t (get_or ts k []) ≡ true
    → ((j : ℕ) → j < k → same t (get_or ts j []) ≡ false) → place ts t ≡ Some k
unfolding place
place-first [] t k l e h = absurd (omega arith)
place-first (p ∷ ts) t zero l e h = rw e
place-first (p ∷ ts) t (suc k) l e h =
    rw (h 0 (omega arith), place-first ts t k (omega arith) e (λ j m. h (suc j) (omega arith)))

pub none-same : (ts : List Text) (t : Text) → place ts t ≡ None → (j : ℕ) → j < length ts → same t (get_or ts j []) ≡ false
unfolding place
none-same [] t e j h = absurd (omega arith)
none-same (p ∷ ts) t e zero h = (not_first (same t p) (place ts t) e).0
none-same (p ∷ ts) t e (suc j) h = none-same ts t (not_first (same t p) (place ts t) e).1 j (omega arith)

-- ---- one different text more

pub different-none : Different []
different-none i j h k = absurd (omega arith)

pub different-more : (ts : List Text) (t : Text) → Different ts → place ts t ≡ None → Different (ts ++ (t ∷ []))
different-more ts t d e i j h k = go (ltb j (length ts)) refl
  where
    go : (v : Bool) → ltb j (length ts) ≡ v → same (get_or (ts ++ (t ∷ [])) i []) (get_or (ts ++ (t ∷ [])) j []) ≡ false
    go true v =
        let l = ltb-true j (length ts) v in
        rw (get_or-append ts (t ∷ []) [] i (omega arith), get_or-append ts (t ∷ []) [] j l) (d i j h l)
    go false v =
        let is : j ≡ length ts = omega (arith, ltb-false j (length ts) v, length-append ts (t ∷ []), k) in
        rw (get_or-append ts (t ∷ []) [] i (omega arith), is, get_or-append_seam ts t [] [])
        (other_way _ _ (none-same ts t e i (omega arith)))

-- ---- the search: the link is `next`, and no text from there on is the one looked for

pub record Searched (ts : List Text) (t : Text) (next : ℕ) : Type 0 where
  pub bound : next ≤ length ts
  pub there : 0 < next → list_of (key (get_or ts (next - 1) [])) ≡ list_of (key t)
  pub others : (j : ℕ) → next ≤ j → j < length ts → same t (get_or ts j []) ≡ false

module _ (ts : List Text) (t : Text) where
  not_listed : (p : Text) → (list_of (key p) ≡ list_of (key t) → ⊥) → same t p ≡ false
  not_listed p h = same-other t p (λ e. h (ap (λ s. list_of (key s)) (sym e)))

  pub search-starts : Searched ts t (last_of (list_of (key t)) ts)
  search-starts =
      let l = last-whole (list_of (key t)) ts in
      record { bound = l.bound; there = l.there; others = λ j a b. not_listed _ (l.others j a b) }

  pub search-ends : Searched ts t 0 → place ts t ≡ None
  search-ends s = place-absent ts t (λ j h. s.others j (omega arith) h)

  module _ (next : ℕ) (s : Searched ts t next) (some-text : 0 < next) where
    pub search-found : Different ts → same t (get_or ts (next - 1) []) ≡ true → place ts t ≡ Some (next - 1)
    search-found d e =
        let within : next - 1 < length ts = omega (arith, s.bound) in
        place-first ts t (next - 1) within e
        (λ j h. same-other _ _ (λ is. true≢false (sym (same-when _ _ (sym is ∙ same-equal _ _ e)) ∙ d j (next - 1) h within)))

    pub search-goes : same t (get_or ts (next - 1) []) ≡ false
        → Searched ts t (last_of (list_of (key (get_or ts (next - 1) []))) (take (next - 1) ts))
    search-goes e = rw (s.there some-text) (record { bound = omega (arith, l.bound, s.bound); there = l.there; others = on })
      where
        l : Last (list_of (key t)) ts (next - 1) (last_of (list_of (key t)) (take (next - 1) ts))
        l = last-is (list_of (key t)) ts (next - 1) (omega (arith, s.bound))

        on : (j : ℕ) → last_of (list_of (key t)) (take (next - 1) ts) ≤ j → j < length ts → same t (get_or ts j []) ≡ false
        on j a b = go (ltb j (next - 1)) refl (eqb j (next - 1)) refl
          where
            go : (v : Bool) → ltb j (next - 1) ≡ v → (w : Bool) → eqb j (next - 1) ≡ w → same t (get_or ts j []) ≡ false
            go true v w f = not_listed _ (l.others j a (ltb-true _ _ v))
            go false v true f = rw (eqb-true j (next - 1) f) e
            go false v false f = let past = eqb-false j (next - 1) f in s.others j (omega (arith, ltb-false j (next - 1) v)) b
