-- Well-formed bytes: joined, parted at an ASCII byte, and of ASCII only.
use Prim.Native.Nat.{ℕ, ◌≤◌}
use mathlib.Core.Path.{◌≡◌, refl, sym, ap, ◌∙◌}
use mathlib.Core.List.{List, [], ◌∷◌, ◌++◌}
use mathlib.Core.Bool.{Bool, true, false, ◌&&◌, and_assoc, false≢true}
use mathlib.Core.Option.{Option, none, some}
use borrow.Author.Tests.{leb-true, le-leb}
use lib.Dec.{leb}
use Rattle.text.specs.Parts.{all}
use Rattle.text.proofs.Tests.{and_parts, and_both, all_first, all_rest, all_cons}
use Rattle.text.specs.Utf8.{Range, within, letters, begins, letters_behind, well_formed, ascii}
use Rattle.text.proofs.Table.{high, high-not, high_byte, Begun, begun, begins-ascii}

-- what a first byte calls for
abbrev pub on_begun : Option (List Range) → List ℕ → Bool
on_begun none s = false
on_begun (some due) s = letters_behind due s

pub letters-first : (b : ℕ) (s : List ℕ) → letters_behind [] (b ∷ s) ≡ on_begun (begins letters b) s
unfolding letters_behind
letters-first b s = go (begins letters b)
  where
    go : (o : Option (List Range)) → (elim o [ none ↦ false | some due ↦ letters_behind due s ]) ≡ on_begun o s
    go none = refl
    go (some due) = refl

-- ---- joined

joined-behind : (due : List Range) (s t : List ℕ) → letters_behind due s ≡ true → well_formed t ≡ true → letters_behind due (s ++ t) ≡ true
unfolding letters_behind well_formed
joined-behind [] [] t h k = k
joined-behind (r ∷ due) [] t h k = absurd (false≢true h)
joined-behind [] (b ∷ s) t h k = letters-first b (s ++ t) ∙ go (begins letters b) (λ due. joined-behind due s t) (sym (letters-first b s) ∙ h)
  where
    go : (o : Option (List Range)) → ((due : List Range) → letters_behind due s ≡ true → well_formed t ≡ true → letters_behind due (s ++ t) ≡ true)
        → on_begun o s ≡ true → on_begun o (s ++ t) ≡ true
    go none more e = e
    go (some due) more e = more due e k
joined-behind (r ∷ due) (b ∷ s) t h k =
    let p = and_parts (within r b) (letters_behind due s) h in
    and_both p.0 (joined-behind due s t p.1 k)

pub well-joined : (s t : List ℕ) → well_formed s ≡ true → well_formed t ≡ true → well_formed (s ++ t) ≡ true
unfolding well_formed
well-joined s t h k = joined-behind [] s t h k

-- ---- parted at an ASCII byte

module _ (x : ℕ) (h : x ≤ 0x7F) where
  pub well-ascii-first : (s : List ℕ) → well_formed (x ∷ s) ≡ well_formed s
  unfolding well_formed
  well-ascii-first s = letters-first x s ∙ ap (λ o. on_begun o s) (begins-ascii x h)

  parted-behind : (due : List Range) → all high due ≡ true → (s t : List ℕ)
      → letters_behind due (s ++ (x ∷ t)) ≡ (letters_behind due s && well_formed t)
  unfolding letters_behind well_formed
  parted-behind [] k [] t = well-ascii-first t
  parted-behind (r ∷ due) k [] t = rw (high-not r x (all_first high r due k) h)
  parted-behind [] k (b ∷ s) t =
      letters-first b (s ++ (x ∷ t)) ∙ go (begins letters b) (begun b) (λ due e. parted-behind due e s t)
      ∙ ap (λ v. v && well_formed t) (sym (letters-first b s))
    where
      go : (o : Option (List Range)) → Begun b o
          → ((due : List Range) → all high due ≡ true → letters_behind due (s ++ (x ∷ t)) ≡ (letters_behind due s && well_formed t))
          → on_begun o (s ++ (x ∷ t)) ≡ (on_begun o s && well_formed t)
      go none g more = refl
      go (some due) g more = more due g.1
  parted-behind (r ∷ due) k (b ∷ s) t =
      ap (λ v. within r b && v) (parted-behind due (all_rest high r due k) s t)
      ∙ sym (and_assoc (within r b) (letters_behind due s) (well_formed t))

  pub well-parted : (s t : List ℕ) → well_formed (s ++ (x ∷ t)) ≡ (well_formed s && well_formed t)
  unfolding well_formed all
  well-parted s t = parted-behind [] refl s t

-- ---- of ASCII only, and of bytes only

pub well-ascii : (s : List ℕ) → all ascii s ≡ true → well_formed s ≡ true
unfolding well_formed letters_behind all
well-ascii [] h = refl
well-ascii (b ∷ s) h =
    well-ascii-first b (leb-true _ _ (all_first ascii b s h)) s ∙ well-ascii s (all_rest ascii b s h)

-- a number that is a byte
abbrev pub is_byte : ℕ → Bool
is_byte b = leb b 0xFF

bytes-behind : (due : List Range) → all high due ≡ true → (s : List ℕ) → letters_behind due s ≡ true → all is_byte s ≡ true
unfolding letters_behind all
bytes-behind due k [] h = refl
bytes-behind [] k (b ∷ s) h = go (begins letters b) (begun b) (λ due e. bytes-behind due e s) (sym (letters-first b s) ∙ h)
  where
    go : (o : Option (List Range)) → Begun b o → ((due : List Range) → all high due ≡ true → letters_behind due s ≡ true → all is_byte s ≡ true)
        → on_begun o s ≡ true → all is_byte (b ∷ s) ≡ true
    go none g more e = absurd (false≢true e)
    go (some due) g more e = all_cons is_byte b s (le-leb _ _ g.0) (more due g.1 e)
bytes-behind (r ∷ due) k (b ∷ s) h =
    let p = and_parts (within r b) (letters_behind due s) h in
    all_cons is_byte b s (le-leb _ _ (high_byte r b (all_first high r due k) p.0)) (bytes-behind due (all_rest high r due k) s p.1)

pub well-bytes : (s : List ℕ) → well_formed s ≡ true → all is_byte s ≡ true
unfolding well_formed all
well-bytes s h = bytes-behind [] refl s h
