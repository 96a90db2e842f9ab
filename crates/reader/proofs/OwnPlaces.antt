-- Where the text of each line `phrase,TEXT` stands, and own phrases by their numbers: each number has that place.
use Prim.Native.Nat.{ℕ, zero, suc, ◌+◌, ◌*◌, ◌≤◌, ◌<◌}
use mathlib.Core.Path.{◌≡◌, refl, sym, ap, ◌∙◌}
use mathlib.Core.List.{List, [], ◌∷◌, ◌++◌, append_assoc}
use mathlib.Core.Bool.{Bool, true, false}
use native.Mathlib.Omega.{arith}
use lib.ListN.{length, take, drop, get_or, set, length-append, get_or-append}
use lib.Seq.{drop_at, take-append-le, take-append_seam, get_or-append_seam, get_or-set_same, get_or-set_other}
use lib.Dec.{eqb}
use borrow.Author.Tests.{eqb-true, eqb-false}
use Rattle.text.specs.Quoted.{bytes}
use Rattle.text.specs.Parts.{LF}
use Rattle.text.specs.Text.{Text, is_text}
use Rattle.text.proofs.Valid.{TextOk, TextsOk}
use Rattle.text.proofs.Tests.{all_first, all_rest}
use Rattle.text.proofs.Bytes.{text-size}
use Rattle.phrases.specs.Lookup.{book_texts}
use Rattle.phrases.specs.Own.{own_number, own_text, OwnAt, OwnNumbers}
use Rattle.phrases.proofs.OwnEntries.{own-there, own-text}
use Rattle.reader.specs.Own.{phrase_line, own_lines}
use Rattle.reader.proofs.OwnLines.{line-length, lines-texts}

-- ---- where a text starts

-- the place of text k, behind the earlier lines and `phrase,`
abbrev pub start_of : List Text → ℕ → ℕ
start_of ts k = length (own_lines (take k ts)) + 7

-- text k with what stands in front of it and behind it
record Between (ts : List Text) (k : ℕ) (lines : List ℕ) : Type 0 where
  before : List ℕ
  after : List ℕ
  all_of : lines ≡ before ++ (get_or ts k [] ++ after)
  start : length before ≡ start_of ts k

between : (ts : List Text) (k : ℕ) (rest : List ℕ) → k < length ts → Between ts k (own_lines ts ++ rest)
unfolding own_lines phrase_line
between [] k rest h = absurd (omega arith)
between (t ∷ ts) zero rest h =
    record { before = bytes "phrase,"; after = LF ∷ (own_lines ts ++ rest); all_of = simp append_assoc; start = refl }
between (t ∷ ts) (suc k) rest h =
    let b = between ts k rest (omega arith) in
    record {
      before = phrase_line t ++ b.before;
      after = b.after;
      all_of = append_assoc (phrase_line t) (own_lines ts) rest ∙ ap (λ l. phrase_line t ++ l) b.all_of ∙ sym (append_assoc (phrase_line t) b.before _);
      start = simp length-append (omega (arith, b.start));
    }

module _ (ts : List Text) (k : ℕ) (rest : List ℕ) (h : k < length ts) where
  pub text-stands : take (length (get_or ts k [])) (drop (start_of ts k) (own_lines ts ++ rest)) ≡ get_or ts k []
  text-stands =
      let b = between ts k rest h in
      let behind = get_or ts k [] ++ b.after in
      rw (b.all_of, drop_at b.before behind (start_of ts k) b.start) (take-append_seam (get_or ts k []) b.after)

  pub text-inside : start_of ts k + length (get_or ts k []) ≤ length (own_lines ts ++ rest)
  text-inside =
      let b = between ts k rest h in
      rw b.all_of (simp length-append (omega (arith, b.start)))

pub text-good : (ts : List Text) (k : ℕ) → TextsOk ts → k < length ts → TextOk (get_or ts k [])
text-good [] k ok h = absurd (omega arith)
text-good (t ∷ ts) zero ok h = all_first is_text t ts ok
text-good (t ∷ ts) (suc k) ok h = text-good ts k (all_rest is_text t ts ok) (omega arith)

start-near : (ts : List Text) (k : ℕ) → TextsOk ts → start_of ts k ≤ 72 * k + 7
unfolding own_lines
start-near ts zero ok = omega arith
start-near [] (suc k) ok = omega arith
start-near (t ∷ ts) (suc k) ok =
    simp length-append (omega (arith, line-length t (all_first is_text t ts ok), start-near ts k (all_rest is_text t ts ok)))

-- ---- the numbers

-- each text has its number behind the index of the book
pub record Numbered (index book : List ℕ) (ts : List Text) : Type 0 where
  pub each : (k : ℕ) → k < length ts → get_or index (129 + length (book_texts book) + k) 0 ≡ own_number (start_of ts k) (get_or ts k [])

pub numbered-none : (index book : List ℕ) → Numbered index book []
numbered-none index book = record { each = λ k h. absurd (omega arith) }

-- one more
pub numbered_more : (index book : List ℕ) (ts : List Text) (t : Text) (start : ℕ) → Numbered index book ts
    → start ≡ length (own_lines ts) + 7 → 129 + length (book_texts book) + length ts < length index
    → Numbered (set index (129 + length (book_texts book) + length ts) (own_number start t)) book (ts ++ (t ∷ []))
numbered_more index book ts t start n s room = record { each = each }
  where
    place : ℕ → ℕ
    place k = 129 + length (book_texts book) + k

    earlier : (k : ℕ) → k ≤ length ts → start_of (ts ++ (t ∷ [])) k ≡ start_of ts k
    earlier k h = ap (λ us. length (own_lines us) + 7) (take-append-le k ts (t ∷ []) h)

    last : own_number start t ≡ own_number (start_of (ts ++ (t ∷ [])) (length ts)) (get_or (ts ++ (t ∷ [])) (length ts) [])
    last =
        let from : start ≡ start_of (ts ++ (t ∷ [])) (length ts) = s ∙ ap (λ us. length (own_lines us) + 7) (sym (take-append_seam ts (t ∷ []))) in
        λ i. own_number (from i) (sym (get_or-append_seam ts t [] []) i)

    each : (k : ℕ) → k < length (ts ++ (t ∷ []))
        → get_or (set index (place (length ts)) (own_number start t)) (place k) 0
        ≡ own_number (start_of (ts ++ (t ∷ [])) k) (get_or (ts ++ (t ∷ [])) k [])
    each k h = go (eqb k (length ts)) refl
      where
        go : (v : Bool) → eqb k (length ts) ≡ v
            → get_or (set index (place (length ts)) (own_number start t)) (place k) 0
            ≡ own_number (start_of (ts ++ (t ∷ [])) k) (get_or (ts ++ (t ∷ [])) k [])
        go true e = rw (eqb-true k (length ts) e) (get_or-set_same index (place (length ts)) (own_number start t) 0 room ∙ last)
        go false e =
            let ne = eqb-false k (length ts) e in
            let below : k < length ts = omega (arith, length-append ts (t ∷ [])) in
            get_or-set_other index (place (length ts)) (place k) (own_number start t) 0 (λ q. ne (omega arith))
            ∙ n.each k below
            ∙ (λ i. own_number (sym (earlier k (omega arith)) i) (sym (get_or-append ts (t ∷ []) [] k below) i))

-- the own phrases, with their numbers, at the front of a buffer
pub numbers-are : (index book : List ℕ) (ts : List Text) (rest : List ℕ) → TextsOk ts → length ts ≤ 32
    → 161 + length (book_texts book) ≤ length index → Numbered index book ts → OwnNumbers index book (own_lines ts ++ rest) (length ts)
numbers-are index book ts rest ok few room n = record { whole = ap length (lines-texts ts rest ok); each = each }
  where
    each : (k : ℕ) → k < length ts → OwnAt index book (own_lines ts ++ rest) k
    each k h =
        let own = own_lines ts ++ rest in
        let is : get_or ts k [] ≡ own_text own k = sym (ap (λ us. get_or us k []) (lines-texts ts rest ok)) ∙ own-text (length ts) own k h in
        let size : length (get_or ts k []) < 128 = omega (arith, (text-size (get_or ts k []) (text-good ts k ok h)).1) in
        own-there index book own k (start_of ts k) (omega arith) (omega (arith, start-near ts k ok)) (rw is at size) (rw is at (text-inside ts k rest h))
        (rw is at (text-stands ts k rest h)) (rw is at (n.each k h))
