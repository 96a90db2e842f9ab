-- The own phrases that were read and written so far, and those behind them.
use Prim.Native.Nat.{ℕ, suc, ◌+◌, ◌*◌, ◌-◌, ◌≤◌, ◌<◌}
use mathlib.Core.Path.{◌≡◌, refl, sym, ap, ◌∙◌}
use mathlib.Core.List.{List, [], ◌∷◌, ◌++◌, append-nil, append_assoc}
use native.Mathlib.Nat.{sub-zero}
use native.Mathlib.Omega.{arith}
use lib.ListN.{length, drop, length-append}
use borrow.Author.Tests.{le-leb, lt-leb}
use Rattle.causes.specs.declared.Cause.{Cause}
use Rattle.output.specs.Pour.{pour, poured}
use Rattle.output.proofs.Pour.{none, then, pour-fits, pour-none}
use Rattle.output.proofs.Poured.{stored}
use Rattle.text.specs.Parts.{all}
use Rattle.text.specs.Text.{Text, is_text}
use Rattle.text.proofs.Valid.{TextsOk}
use Rattle.text.proofs.Tests.{all_append, all_cons}
use Rattle.phrases.specs.Lookup.{book_texts, own_texts}
use Rattle.plate.specs.Reading.{Place, Read, got, stopped, return}
use Rattle.phrases.specs.Phrases.{Phrases, is_new}
use Rattle.plate.specs.Plate.{spelled, own_count, own_from}
use Rattle.plate.proofs.Spelled.{gives-spelled}
use Rattle.fields.specs.Places.{place_at, until_etx}
use Rattle.fields.proofs.Onward.{then-got, then-stopped, got-good}
use Rattle.fields.proofs.Behind.{behind, behind-none, behind-one}
use Rattle.plate_characters.proofs.TextCopy.{got-known}
use Rattle.plate_texts.proofs.Known.{known-judged}
use Rattle.reader.specs.Own.{phrase_line, own_lines, when_read, own_until, own_counted, own_stored}
use Rattle.reader.proofs.OwnLines.{lines_more, lines-texts, lines-length}

-- what was read among the phrases of a lookup
pub read-among : (q : Place) {m : Read Text} {p r : Phrases} → p ≡ r → m ≡ spelled 7 (is_new p.book p.own) q → m ≡ spelled 7 (is_new r.book r.own) q
read-among q is e = e ∙ ap (λ (p : Phrases). spelled 7 (is_new p.book p.own) q) is

-- the characters of a phrase that was read
pub phrase-characters : (plate : List ℕ) (bit : ℕ) (book own : List Text) {t : Text} {q : Place}
    → got t q ≡ spelled 7 (is_new book own) (place_at plate bit) → got t q ≡ until_etx 7 (place_at plate bit)
unfolding spelled
phrase-characters plate bit book own e = e ∙ sym (known-judged (until_etx 7) _ _ plate bit (got-known e))

-- k of them are read and written, and with those behind them they are all own phrases
pub record OwnSoFar (plate book : List ℕ) (at count : ℕ) (old own : List ℕ) (bit end k : ℕ) : Type 0 where
  pub texts : List Text
  pub number : length texts ≡ k
  pub good : TextsOk texts
  pub written : (end, own) ≡ poured 0 (own_lines texts) old
  pub whole : behind texts (own_from (book_texts book) texts (count - k) (place_at plate bit))
      ≡ own_from (book_texts book) [] count (place_at plate at)
  pub until : texts ++ own_until (book_texts book) texts (count - k) (place_at plate bit) ≡ own_until (book_texts book) [] count (place_at plate at)

pub own-start : (plate book : List ℕ) (at count : ℕ) (own : List ℕ) → OwnSoFar plate book at count own own at 0 0
unfolding own_lines all
own-start plate book at count own =
    record {
      texts = [];
      number = refl;
      good = refl;
      written = none 0 own (omega arith);
      whole = behind-none _ ∙ ap (λ n. own_from (book_texts book) [] n (place_at plate at)) (sub-zero count);
      until = ap (λ n. own_until (book_texts book) [] n (place_at plate at)) (sub-zero count);
    }

pub own-start-texts : (plate book : List ℕ) (at count : ℕ) (own : List ℕ) → (own-start plate book at count own).texts ≡ []
unfolding own-start
own-start-texts plate book at count own = refl

module _ {plate book : List ℕ} {at count : ℕ} {old own : List ℕ} {bit end k : ℕ} (s : OwnSoFar plate book at count old own bit end k)
    (room : 72 * k ≤ length old) where
  -- the lines are the front of the buffer
  pub own-front : own ≡ own_lines s.texts ++ drop (length (own_lines s.texts)) old
  own-front =
      let lines = own_lines s.texts in
      let fits : length lines ≤ length old = omega (arith, lines-length s.texts s.good, s.number) in
      stored 0 lines old end own s.written ∙ pour-fits lines old fits

  pub own-texts : own_texts k own ≡ s.texts
  own-texts =
      let lines = own_lines s.texts in
      ap (own_texts k) own-front ∙ ap (λ n. own_texts n (lines ++ drop (length lines) old)) (sym s.number)
      ∙ lines-texts s.texts (drop (length lines) old) s.good

  pub own-ended : k ≡ count → got (own_texts count own) (place_at plate bit) ≡ own_from (book_texts book) [] count (place_at plate at)
  unfolding own_from return
  own-ended e =
      let z : count - k ≡ 0 = omega arith in
      let all_read : got (s.texts ++ []) (place_at plate bit) ≡ own_from (book_texts book) [] count (place_at plate at) = rw z at s.whole in
      ap (λ n. got (own_texts n own) (place_at plate bit)) (sym e)
      ∙ ap (λ ts. got ts (place_at plate bit)) (own-texts ∙ sym (append-nil s.texts)) ∙ all_read

  -- the buffer, where all of them are read or one is refused
  left_by : s.texts ≡ own_until (book_texts book) [] count (place_at plate at)
      → own ≡ pour 0 (own_lines (own_until (book_texts book) [] count (place_at plate at))) old
  left_by e = stored 0 (own_lines s.texts) old end own s.written ∙ ap (λ ts. pour 0 (own_lines ts) old) e

  pub own-left-ended : k ≡ count → own ≡ pour 0 (own_lines (own_until (book_texts book) [] count (place_at plate at))) old
  unfolding own_until
  own-left-ended e =
      let z : count - k ≡ 0 = omega arith in
      left_by (sym (append-nil s.texts) ∙ (rw z at s.until))

  module _ (more : k < count) where
    one_left : count - k ≡ suc (count - (k + 1))
    one_left = omega arith

    pub own-stopped : {cause : Cause} {b : ℕ} → stopped cause b ≡ spelled 7 (is_new (book_texts book) (own_texts k own)) (place_at plate bit)
        → stopped cause b ≡ own_from (book_texts book) [] count (place_at plate at)
    unfolding own_from
    own-stopped e =
        let e' = rw own-texts at e in
        ap (behind s.texts) (then-stopped (spelled 7 (is_new (book_texts book) s.texts)) _ (place_at plate bit) e')
        ∙ (rw one_left at s.whole)

    pub own-left-stopped : {cause : Cause} {b : ℕ} → stopped cause b ≡ spelled 7 (is_new (book_texts book) (own_texts k own)) (place_at plate bit)
        → own ≡ pour 0 (own_lines (own_until (book_texts book) [] count (place_at plate at))) old
    unfolding own_until
    own-left-stopped e =
        let e' = rw own-texts at e in
        left_by (sym (append-nil s.texts)
        ∙ ap (λ m. s.texts ++ when_read m (λ t q. t ∷ own_until (book_texts book) (s.texts ++ (t ∷ [])) (count - (k + 1)) q)) e'
        ∙ (rw one_left at s.until))

    pub own-more : (t : Text) (next : ℕ) (own' : List ℕ) (end' : ℕ) → length old < 9223372036854775808
        → got t (place_at plate next) ≡ spelled 7 (is_new (book_texts book) (own_texts k own)) (place_at plate bit)
        → (end', own') ≡ poured end (phrase_line t) own → OwnSoFar plate book at count old own' next end' (k + 1)
    unfolding own_from own_until all
    own-more t next own' end' counted e w =
        let e' = rw own-texts at e in
        let ok = (got-good (place_at plate bit) (gives-spelled (book_texts book) s.texts) e').0 in
        let n = count - (k + 1) in
        record {
          texts = s.texts ++ (t ∷ []);
          number = simp length-append (omega (arith, s.number));
          good = all_append is_text s.texts (t ∷ []) s.good (all_cons is_text t [] ok refl);
          written = rw lines_more at (then 0 (own_lines s.texts) (phrase_line t) old end own (end', own') s.written w counted);
          whole =
              sym (behind-one s.texts t (own_from (book_texts book) (s.texts ++ (t ∷ [])) n) (place_at plate next))
              ∙ ap (behind s.texts) (then-got (spelled 7 (is_new (book_texts book) s.texts)) _ (place_at plate bit) e')
              ∙ (rw one_left at s.whole);
          until =
              append_assoc s.texts (t ∷ []) (own_until (book_texts book) (s.texts ++ (t ∷ [])) n (place_at plate next))
              ∙ ap (λ m. s.texts ++ when_read m (λ t q. t ∷ own_until (book_texts book) (s.texts ++ (t ∷ [])) n q)) e' ∙ (rw one_left at s.until);
        }

    -- the text is behind the earlier ones
    pub own-more-texts : (t : Text) (next : ℕ) (own' : List ℕ) (end' : ℕ) (counted : length old < 9223372036854775808)
        (e : got t (place_at plate next) ≡ spelled 7 (is_new (book_texts book) (own_texts k own)) (place_at plate bit))
        (w : (end', own') ≡ poured end (phrase_line t) own) → (own-more t next own' end' counted e w).texts ≡ s.texts ++ (t ∷ [])
    unfolding own-more
    own-more-texts t next own' end' counted e w = refl

-- ---- of a plate

module _ (plate : List ℕ) (book : List Text) (own : List ℕ) where
  abbrev left-with : List Text → List ℕ
  left-with ts = pour 0 (own_lines ts) own

  nothing_left : own ≡ left-with []
  unfolding own_lines
  nothing_left = sym (pour-none 0 own)

  -- their number is refused
  pub own-uncounted : {cause : Cause} {b : ℕ} → stopped cause b ≡ own_count (place_at plate 0)
      → own ≡ left-with (own_counted book (own_count (place_at plate 0)))
  own-uncounted e = nothing_left ∙ ap (λ m. left-with (own_counted book m)) e

  -- a plate over 2,953 bytes
  pub own-unread : 2953 < length plate → own ≡ left-with (own_stored book plate)
  unfolding own_stored
  own-unread h = rw (lt-leb (length plate) 2953 h) nothing_left

  -- what the code left there, by the number and by the whole plate
  module _ (left : List ℕ) where
    pub own-counted : {n : ℕ} {q : Place} → left ≡ left-with (own_until book [] n q) → got n q ≡ own_count (place_at plate 0)
        → left ≡ left-with (own_counted book (own_count (place_at plate 0)))
    own-counted h e = h ∙ ap (λ m. left-with (own_counted book m)) e

    pub own-of-plate : left ≡ left-with (own_counted book (own_count (place_at plate 0))) → length plate ≤ 2953 → left ≡ left-with (own_stored book plate)
    unfolding own_stored
    own-of-plate h l = rw (le-leb (length plate) 2953 l) h
