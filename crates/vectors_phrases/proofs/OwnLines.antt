-- The numbers of the first lines of a case, one line on.
use Prim.Native.Nat.{ℕ, suc, ◌+◌, ◌-◌, ◌≤◌, ◌<◌}
use native.Mathlib.Omega.{arith}
use native.Mathlib.Numerals.{add-one}
use mathlib.Core.Path.{◌≡◌, refl, sym, ap, ◌∙◌}
use mathlib.Core.List.{List, [], ◌∷◌}
use lib.ListN.{length, take, drop, get_or, set, length-set, length-drop, length-append}
use lib.Seq.{drop-drop, get_or-set_same}
use Rattle.text.specs.Parts.{split, parts_from, until_byte, LF}
use Rattle.text.proofs.Places.{parts_whole, parts_next, at_front}
use Rattle.phrases.specs.Lookup.{book_texts, phrase_text, own_texts}
use Rattle.phrases.specs.Index.{Indexed}
use Rattle.phrases.specs.Own.{own_number, own_text, OwnAt, OwnNumbers}
use Rattle.phrases.proofs.Texts.{own-texts-more}
use Rattle.phrases.proofs.Entries.{indexed-count}
use Rattle.phrases.proofs.OwnEntries.{own-there, own-none, index_kept, own-more}

-- the first k lines have their numbers, and line k starts at a
pub record Lines (book own first index : List ℕ) (k a : ℕ) : Type 0 where
  pub indexed : Indexed index book
  pub size : length index ≡ length first
  pub numbers : OwnNumbers index book own k
  pub rest : drop k (split LF own) ≡ parts_from LF a own

pub lines_none : (book own index : List ℕ) → Indexed index book → Lines book own index index 0 0
lines_none book own index i = record { indexed = i; size = refl; numbers = own-none index book own; rest = parts_whole LF own }

module _ {book own first index : List ℕ} {k a : ℕ} (l : Lines book own first index k a) where
  pub place-there : 449 ≤ length first → k < 64 → 129 + get_or index 0 0 + k < length index
  place-there h n = omega (arith, l.size, l.indexed.few, indexed-count index book l.indexed)

  module _ {e : ℕ} (h : a ≤ length own) (u : e ≡ a + until_byte LF (drop a own)) where
    next : drop k (split LF own) ≡ take (e - a) (drop a own) ∷ parts_from LF (e + 1) own
    next = l.rest ∙ parts_next LF own a e h u

    there : k < length (split LF own)
    there = omega (arith, rw length-drop at (ap length next))

    whole : length (own_texts (suc k) own) ≡ suc k
    whole =
        let more = ap length (own-texts-more k own there) in
        omega (arith, more, ap (λ j. length (own_texts j own)) (add-one k), length-append (own_texts k own) (phrase_text (get_or (split LF own) k []) ∷ []), l.numbers.whole)

    module _ (t : List ℕ) (f : t ≡ phrase_text (take (e - a) (drop a own))) (p : 129 + get_or index 0 0 + k < length index) (start : ℕ)
        (s : (start < 4096) × (length t < 128) × (start + length t ≤ length own) × (take (length t) (drop start own) ≡ t)) where
      abbrev last : List ℕ
      last = set index (129 + length (book_texts book) + k) (own_number start t)

      text-is : own_text own k ≡ t
      unfolding own_text
      text-is = ap phrase_text (at_front (split LF own) k ∙ ap (λ ls. get_or ls 0 []) next) ∙ sym f

      own_at : OwnAt last book own k
      own_at =
          let n : 129 + length (book_texts book) + k < length index = omega (arith, p, indexed-count index book l.indexed) in
          own-there last book own k start (simp length-set n) s.0 (rw text-is s.1) (rw text-is s.2) (rw text-is s.3)
          (get_or-set_same index (129 + length (book_texts book) + k) _ 0 n ∙ ap (own_number start) (sym text-is))

      more : Lines book own first last (suc k) (e + 1)
      more =
          record {
            indexed = index_kept index book own k _ l.indexed;
            size = simp length-set l.size;
            numbers = own-more index book own k _ l.numbers whole own_at;
            rest = rw add-one at (sym (drop-drop 1 k (split LF own)) ∙ ap (drop 1) next);
          }

      pub lines_more : {after : List ℕ} → after ≡ set index (129 + get_or index 0 0 + k) (own_number start t) → Lines book own first after (k + 1) (e + 1)
      lines_more i = rw (i, ← indexed-count index book l.indexed, add-one k) more
