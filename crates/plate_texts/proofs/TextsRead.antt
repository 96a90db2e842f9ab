-- Texts as the code reads them: the code, and one text behind the other.
use Prim.Native.Nat.{ℕ, zero, suc, ◌+◌, ◌-◌, ◌*◌, ◌≤◌, ◌<◌}
use mathlib.Core.Path.{◌≡◌, refl, sym, ap, ◌∙◌}
use mathlib.Core.List.{List, [], ◌∷◌}
use mathlib.Core.Bool.{true, false≢true}
use native.Mathlib.Numerals.{sub-one}
use native.Mathlib.Omega.{arith}
use lib.ListN.{length}
use borrow.Author.Tests.{leb-true}
use Rattle.causes.specs.declared.Cause.{Cause}
use Rattle.causes.specs.declared.Cause.TheVariants.{Unused}
use Rattle.bits.specs.Ahead.{ahead_in, part_ahead}
use Rattle.phrases.specs.Phrases.{Phrases, is_new}
use Rattle.plate.specs.Reading.{Place, Read, got, stopped, Reader, number, judged, return, onward, ◌>>=◌, many}
use Rattle.plate.specs.Plate.{is_text_code, text_by, text, spelled, is_accented, phrase}
use Rattle.fields.specs.Places.{place_at, measured, Known}
use Rattle.plate_texts.proofs.Ended.{measured-alike}
use Rattle.plate_texts.proofs.Known.{known_same, known-first, known-judged}
use Rattle.fields.proofs.Ahead.{part-read}
use Rattle.plate_texts.specs.TextsAt.{code_with}
use Rattle.fields.proofs.Ahead.{known-room}
use Rattle.plate.proofs.Readers.{gives-number, gives-judged}
use Rattle.fields.proofs.Onward.{then-stopped, judged-alike, got-good}

-- ---- the code

code_alike : (c : Phrases) (n : ℕ) → n ≡ length c.book + length c.own → (k : ℕ) → code_with n k ≡ is_text_code c k
code_alike c n e zero = refl
code_alike c n e (suc zero) = refl
code_alike c n e (suc (suc zero)) = rw e
code_alike c n e (suc (suc (suc k))) = refl

pub text-code : (c : Phrases) (n : ℕ) (plate : List ℕ) (at : ℕ) → n ≡ length c.book + length c.own
    → judged (number 2) (code_with n) Unused (place_at plate at) ≡ judged (number 2) (is_text_code c) Unused (place_at plate at)
text-code c n plate at e = judged-alike (number 2) (is_text_code c) Unused plate at (code_with n) (code_alike c n e)

-- a code that is neither 0 nor 1 is 2, which is used only where there are phrases
pub some-phrase : (n code : ℕ) (p q : Place) → got code q ≡ judged (number 2) (code_with n) Unused p → (code ≡ 0 → ⊥) → (code ≡ 1 → ⊥) → 0 < n
some-phrase n code p q e h k = go code h k (got-good p (gives-judged (code_with n) Unused (gives-number 2)) e).1
  where
    go : (k : ℕ) → (k ≡ 0 → ⊥) → (k ≡ 1 → ⊥) → code_with n k ≡ true → 0 < n
    go zero h k t = absurd (h refl)
    go (suc zero) h k t = absurd (k refl)
    go (suc (suc zero)) h k t = leb-true 1 n t
    go (suc (suc (suc j))) h k t = absurd (false≢true t)

-- where a text is known to be good, its code need not be judged
known-code : (c : Phrases) (plate : List ℕ) (at : ℕ) → Known (text c (place_at plate at))
    → number 2 (place_at plate at) ≡ judged (number 2) (is_text_code c) Unused (place_at plate at)
unfolding text
known-code c plate at w = known-judged _ _ _ plate at (known-first _ _ _ w)

module _ (c : Phrases) (plate : List ℕ) (at : ℕ) (w : Known (text c (place_at plate at))) where
  code-known : Known (number 2 (place_at plate at))
  unfolding text
  code-known = known_same (known-code c plate at w) (known-first _ _ _ w)

  -- it is the part of what was read ahead
  pub code-ahead : (ahead code : ℕ) → ahead ≡ ahead_in plate at → code ≡ part_ahead 0 2 ahead
      → got code (place_at plate (at + 2)) ≡ judged (number 2) (is_text_code c) Unused (place_at plate at)
  code-ahead ahead code a e =
      ap (λ k. got k (place_at plate (at + 2))) e ∙ part-read plate at a 0 2 (omega arith) refl at (at + 2) (omega arith) (omega arith) code-known ∙ known-code c plate at w

  -- and its bits are there
  pub code-room : at + 2 ≤ length plate * 8
  code-room = omega (arith, known-room plate at 2 code-known)

-- it is that of a phrase only where there are some
pub known-phrase : (c : Phrases) (plate : List ℕ) (at code : ℕ) (q : Place) → got code q ≡ judged (number 2) (is_text_code c) Unused (place_at plate at)
    → (code ≡ 0 → ⊥) → (code ≡ 1 → ⊥) → 0 < length c.book + length c.own
known-phrase c plate at code q e h k =
    some-phrase (length c.book + length c.own) code (place_at plate at) q (e ∙ sym (text-code c _ plate at refl)) h k

pub by-spelled : (c : Phrases) (q : Place) (code : ℕ) → code ≡ 0 → spelled 7 (is_new c.book c.own) q ≡ text_by c code q
by-spelled c q code z = rw z

pub by-accented : (c : Phrases) (q : Place) (code : ℕ) → code ≡ 1 → spelled 8 (is_accented c.book c.own) q ≡ text_by c code q
by-accented c q code z = rw z

pub by-phrase : (c : Phrases) (q : Place) (code : ℕ) → (code ≡ 0 → ⊥) → (code ≡ 1 → ⊥) → phrase c.book c.own q ≡ text_by c code q
by-phrase c q zero h k = absurd (h refl)
by-phrase c q (suc zero) h k = absurd (k refl)
by-phrase c q (suc (suc j)) h k = refl

-- ---- one behind the other

-- what is left of n ends where all of them end, and has the size that all of them have; each reader is told how many come behind it
pub record Passing {A : Type 0} (r : ℕ → Reader A) (p : Place) (n : ℕ) (whole : List A → ℕ) (left : ℕ) (q : Place) (size : List A → ℕ) : Type 0 where
  pub rest : measured size (many r left q) ≡ measured whole (many r n p)

module _ {A : Type 0} (r : ℕ → Reader A) where
  pub passing-start : (p : Place) (n : ℕ) (whole size : List A → ℕ) → ((xs : List A) → size xs ≡ whole xs) → Passing r p n whole n p size
  passing-start p n whole size h = record { rest = measured-alike size whole h (many r n p) }

  more : (size : List A → ℕ) (left : ℕ) (q s : Place) (a : A) → got a s ≡ r left q
      → measured (λ xs. size (a ∷ xs)) (many r left s) ≡ measured size (many r (suc left) q)
  unfolding many ◌>>=◌ return
  more size left q s a e = go (many r left s)
      ∙ ap (λ m. measured size (onward m (λ a. many r left >>= λ as'. return (a ∷ as')))) e
    where
      go : (m : Read (List A)) → measured (λ xs. size (a ∷ xs)) m ≡ measured size (onward m (λ as'. return (a ∷ as')))
      go (got as' q) = refl
      go (stopped cause bit) = refl

  module _ {p : Place} {n : ℕ} {whole : List A → ℕ} (left : ℕ) {q : Place} {size : List A → ℕ} (w : Passing r p n whole left q size) where
    pub passing-more : (s : Place) (a : A) (next : List A → ℕ) → 0 < left → got a s ≡ r (left - 1) q
        → ((xs : List A) → next xs ≡ size (a ∷ xs)) → Passing r p n whole (left - 1) s next
    passing-more s a next h e same = go left h w e
      where
        go : (k : ℕ) → 0 < k → Passing r p n whole k q size → got a s ≡ r (k - 1) q → Passing r p n whole (k - 1) s next
        go zero h w e = absurd (omega arith)
        go (suc k) h w e =
            let e' = rw sub-one at e in
            rw sub-one (record { rest = measured-alike next _ same (many r k s) ∙ more size k q s a e' ∙ w.rest })

    pub passing-stopped : {cause : Cause} {bit : ℕ} → 0 < left → stopped cause bit ≡ r (left - 1) q
        → stopped cause bit ≡ measured whole (many r n p)
    unfolding many
    passing-stopped {cause} {bit} h e = go left h w e
      where
        go : (k : ℕ) → 0 < k → Passing r p n whole k q size → stopped cause bit ≡ r (k - 1) q → stopped cause bit ≡ measured whole (many r n p)
        go zero h w e = absurd (omega arith)
        go (suc k) h w e =
            let e' = rw sub-one at e in
            ap (measured size) (then-stopped (r k) (λ a. many r k >>= λ as'. return (a ∷ as')) q e') ∙ w.rest

    pub passing-end : {v : ℕ} → left ≡ 0 → v ≡ size [] → got v q ≡ measured whole (many r n p)
    unfolding many return
    passing-end z e = ap (λ v. got v q) e ∙ (rw z at w).rest
