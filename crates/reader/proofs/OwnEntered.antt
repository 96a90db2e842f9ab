-- The own phrases that were read and written so far, with their numbers behind the index of the book.
use Prim.Native.Nat.{ℕ, ◌+◌, ◌-◌, ◌*◌, ◌≤◌, ◌<◌}
use mathlib.Core.Path.{◌≡◌, refl, sym, ap, subst, ◌∙◌}
use mathlib.Core.List.{List, [], ◌∷◌, ◌++◌}
use native.Mathlib.Omega.{arith}
use lib.ListN.{length, take, drop, get_or, set, length-append, length-set}
use lib.Seq.{take-append_seam, get_or-append_seam}
use Rattle.output.specs.Pour.{poured}
use Rattle.output.proofs.Pour.{kept}
use Rattle.output.proofs.Poured.{ended}
use Rattle.text.specs.Text.{Text}
use Rattle.text.proofs.Valid.{TextOk, TextsOk}
use Rattle.text.proofs.Bytes.{text-size}
use Rattle.phrases.specs.Lookup.{book_texts, own_texts}
use Rattle.phrases.specs.Index.{Indexed}
use Rattle.phrases.specs.Own.{own_number, OwnNumbers, Listed, OwnKept}
use Rattle.phrases.proofs.Entries.{indexed-count}
use Rattle.phrases.proofs.OwnEntries.{index_kept, kept-none, kept_more}
use Rattle.plate.specs.Reading.{got}
use Rattle.phrases.specs.Phrases.{is_new}
use Rattle.plate.specs.Plate.{spelled}
use Rattle.fields.specs.Places.{place_at}
use Rattle.reader.specs.Own.{phrase_line, own_lines}
use Rattle.reader.proofs.OwnLines.{line-size, lines-length}
use Rattle.reader.proofs.OwnSoFar.{OwnSoFar, own-start, own-start-texts, own-front, own-more, own-more-texts}
use Rattle.reader.proofs.OwnPlaces.{start_of, text-stands, text-good, Numbered, numbered-none, numbered_more, numbers-are}

-- k of them are read, written and entered; nothing but their numbers differs from the first index
pub record OwnEntered (plate book : List ℕ) (at count : ℕ) (old own first index : List ℕ) (bit end k : ℕ) : Type 0 where
  pub read : OwnSoFar plate book at count old own bit end k
  pub indexed : Indexed index book
  pub numbered : Numbered index book read.texts
  pub kept : OwnKept book first index
  pub size : length index ≡ length first

pub entered-start : (plate book : List ℕ) (at count : ℕ) (own index : List ℕ) → Indexed index book
    → OwnEntered plate book at count own own index index at 0 0
entered-start plate book at count own index i =
    record {
      read = own-start plate book at count own;
      indexed = i;
      numbered = subst (Numbered index book) (sym (own-start-texts plate book at count own)) (numbered-none index book);
      kept = kept-none book index;
      size = refl;
    }

module _ {plate book : List ℕ} {at count : ℕ} {old own first index : List ℕ} {bit end k : ℕ}
    (s : OwnEntered plate book at count old own first index bit end k) (room : 72 * k ≤ length old) (few : k ≤ 32)
    (big : 161 + length (book_texts book) ≤ length first) where
  -- their lines end below 32 times 72
  pub entered-end : end ≤ 2304
  entered-end =
      let r = s.read in
      omega (arith, ended 0 (own_lines r.texts) old end own r.written, lines-length r.texts r.good, r.number)

  -- the phrases so far, by their numbers
  entered-numbers : OwnNumbers index book own k
  entered-numbers =
      let r = s.read in
      let ts = r.texts in
      let n = numbers-are index book ts (drop (length (own_lines ts)) old) r.good (omega (arith, r.number)) (omega (arith, s.size)) s.numbered in
      subst (λ o. OwnNumbers index book o k) (sym (own-front r room)) (subst (OwnNumbers index book _) r.number n)

  pub entered-listed : Listed index book own k
  entered-listed = record { indexed = s.indexed; numbers = entered-numbers; few = few }

-- a line that is written from a place on, where its text stands in the buffer, and how far it goes
pub record Line (own : List ℕ) (at end : ℕ) : Type 0 where
  pub text : Text
  pub behind : end ≡ at + 8 + length text
  pub small : end ≤ 2304
  pub inside : end ≤ length own
  pub few : length text ≤ 64
  pub part : take (end - 1 - (at + 7)) (drop (at + 7) own) ≡ text

pub line-few : {own : List ℕ} {at end : ℕ} → Line own at end → length (take (end - 1 - (at + 7)) (drop (at + 7) own)) ≤ 64
line-few m = omega (arith, ap length m.part, m.few)

-- one more line is written
module _ {plate book : List ℕ} {at count : ℕ} {old own first index : List ℕ} {bit end k : ℕ}
    (s : OwnEntered plate book at count old own first index bit end k) (more : k < count) (few : count ≤ 32) (room : 72 * count ≤ length old)
    (t : Text) (next : ℕ) (own' : List ℕ) (end' : ℕ) (counted : length old < 9223372036854775808)
    (e : got t (place_at plate next) ≡ spelled 7 (is_new (book_texts book) (own_texts k own)) (place_at plate bit))
    (w : (end', own') ≡ poured end (phrase_line t) own) where
  abbrev ts : List Text
  ts = s.read.texts

  written : OwnSoFar plate book at count old own' next end' (k + 1)
  written = own-more s.read (omega arith) more t next own' end' counted e w

  written-texts : written.texts ≡ ts ++ (t ∷ [])
  unfolding written
  written-texts = own-more-texts s.read (omega arith) more t next own' end' counted e w

  -- where the lines end, before and behind it
  end_before : end ≡ length (own_lines ts)
  end_before =
      omega (arith, ended 0 (own_lines ts) old end own s.read.written, lines-length ts s.read.good, s.read.number)

  end-behind : end' ≡ end + 8 + length t
  end-behind =
      let r = written in
      let is = ended 0 (own_lines r.texts) old end' own' r.written in
      let all_of : length (own_lines r.texts) ≡ length (own_lines ts) + (8 + length t) = ap (λ us. length (own_lines us)) written-texts ∙ line-size ts t in
      omega (arith, is, lines-length r.texts r.good, r.number, all_of, end_before)

  -- they are inside the buffer
  end-inside : end' ≤ 2304
  end-inside =
      let r = written in
      omega (arith, ended 0 (own_lines r.texts) old end' own' r.written, lines-length r.texts r.good, r.number)

  end-room : end' ≤ length own'
  end-room =
      let r = written in
      omega (arith, ended 0 (own_lines r.texts) old end' own' r.written, lines-length r.texts r.good, r.number, kept 0 (own_lines r.texts) old end' own' r.written)

  text-few : length t ≤ 64
  text-few =
      let good : TextsOk (ts ++ (t ∷ [])) = rw written-texts at written.good in
      let below : length ts < length (ts ++ (t ∷ [])) = simp length-append (omega arith) in
      let ok : TextOk t = rw (get_or-append_seam ts t [] []) at (text-good (ts ++ (t ∷ [])) (length ts) good below) in
      (text-size t ok).1

  -- the text in its line
  text-part : take (end' - 1 - (end + 7)) (drop (end + 7) own') ≡ t
  text-part =
      let z : end' - 1 - (end + 7) ≡ length t = omega (arith, end-behind) in
      let rest = drop (length (own_lines written.texts)) old in
      let last : get_or (ts ++ (t ∷ [])) (length ts) [] ≡ t = get_or-append_seam ts t [] [] in
      let start : length (own_lines ts) + 7 ≡ end + 7 = omega (arith, end_before) in
      let from : start_of (ts ++ (t ∷ [])) (length ts) ≡ end + 7 = ap (λ us. length (own_lines us) + 7) (take-append_seam ts (t ∷ [])) ∙ start in
      let below : length ts < length (ts ++ (t ∷ [])) = simp length-append (omega arith) in
      let stands = text-stands (ts ++ (t ∷ [])) (length ts) rest below in
      let here : own' ≡ own_lines (ts ++ (t ∷ [])) ++ rest = own-front written (omega arith) ∙ ap (λ us. own_lines us ++ rest) written-texts in
      rw (here, z) (rw (last, from) at stands)

  pub line-more : Line own' end end'
  line-more =
      record { text = t; behind = end-behind; small = end-inside; inside = end-room; few = text-few; part = text-part }

  -- and its number is entered
  pub entered-more : 161 + length (book_texts book) ≤ length first → (index' : List ℕ)
      → index' ≡ set index (129 + get_or index 0 0 + k) (own_number (end + 7) (take (end' - 1 - (end + 7)) (drop (end + 7) own')))
      → OwnEntered plate book at count old own' first index' next end' (k + 1)
  entered-more big index' i =
      let n = length (book_texts book) in
      let number = s.read.number in
      let place : 129 + get_or index 0 0 + k ≡ 129 + n + k = omega (arith, indexed-count index book s.indexed) in
      let those : 129 + n + k ≡ 129 + n + length ts = omega (arith, number) in
      let entered : index' ≡ set index (129 + n + k) (own_number (end + 7) t) =
      i ∙ (λ j. set index (place j) (own_number (end + 7) (text-part j))) in
      let numbered = numbered_more index book ts t (end + 7) s.numbered (omega (arith, end_before)) (omega (arith, s.size, number)) in
      record {
        read = written;
        indexed = rw entered (index_kept index book own' k (own_number (end + 7) t) s.indexed);
        numbered = rw (entered, those, written-texts) numbered;
        kept = rw entered (kept_more book first index k (own_number (end + 7) t) (omega arith) s.kept);
        size = rw entered (length-set index (129 + n + k) (own_number (end + 7) t) ∙ s.size);
      }
