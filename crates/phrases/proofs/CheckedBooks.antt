-- A book whose check found no bad line: by the check, or because it is empty.
use Prim.Native.Nat.{ℕ, ◌+◌, ◌≤◌}
use native.Mathlib.Omega.{arith}
use mathlib.Core.Path.{◌≡◌, refl, sym, ap, ◌∙◌}
use mathlib.Core.List.{List, [], ◌∷◌, append-nil}
use lib.ListN.{length, take, replicate, length-replicate, replicate-append-replicate}
use lib.Seq.{take-append-le}
use Rattle.text.specs.Parts.{split}
use Rattle.phrases.specs.Book.{book_phrases, phrases_from}
use Rattle.phrases.specs.Lookup.{ended, book_texts}
use Rattle.phrases.specs.Index.{entries_at, book_numbers, entries_from, index_of, book_check, behind, Indexed, CheckedBook}
use Rattle.std.specs.Prelude.{Result, Ok}
use Rattle.causes.specs.declared.Refusal.{Refusal}
use Rattle.phrases.proofs.Answers.{answer-is, book-is}
use Rattle.phrases.proofs.Keys.{different-none}
use Rattle.phrases.proofs.Entries.{index-length}
use Rattle.phrases.proofs.Entered.{none-zeros}

-- what the check says of a book that it finds good, where it was lent room for so many own phrases behind the longest index
pub checked-book : (own : ℕ) (b index last : List ℕ) {n : ℕ} {r : Result ℕ Refusal} → (r, last) ≡ book_check b index
    → ((n : ℕ) → r ≡ Ok n → Indexed last b) → book_numbers + own ≤ length last → r ≡ Ok n → CheckedBook own last b
checked-book own b index last {n} e i l h =
    record { indexed = i n h; room = omega (arith, (i n h).few); phrases = book-is b (sym (answer-is b index e) ∙ h) }

-- ---- no book

pub none-index : replicate 129 0 ≡ index_of []
unfolding index_of entries_from
none-index = sym (ap (◌∷◌ 0) (append-nil _ ∙ none-zeros 0 128))

front : (own : ℕ) → take {A = ℕ} 129 (replicate (entries_at + own) 0) ≡ replicate 129 0
front own = ap (take {A = ℕ} 129) (sym (replicate-append-replicate 129 own 0)) ∙ take-append-le 129 (replicate 129 0) (replicate own 0) (omega arith)

-- the index of no texts is 129 zeros, and so many numbers stand behind it
pub checked-none : (own : ℕ) (b : List ℕ) → length b ≡ 0 → CheckedBook own (replicate (entries_at + own) 0) b
unfolding book_texts ended split behind book_phrases phrases_from
checked-none own [] h =
    record {
      indexed =
          record {
            entries = rw (index-length []) (front own ∙ none-index);
            different = different-none;
            few = omega arith;
            whole = refl;
            short = omega arith;
          };
      room = omega (arith, length-replicate {A = ℕ} (entries_at + own) 0);
      phrases = refl;
    }
checked-none own (x ∷ b) h = absurd (omega arith)
