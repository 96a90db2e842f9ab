-- "Every plate already engraved keeps its bits and its meaning."
use Prim.Native.Nat.{ℕ, zero, suc}
use mathlib.Core.Path.{◌≡◌, refl, ap, ◌∙◌}
use mathlib.Core.List.{List, [], ◌∷◌, ◌++◌}
use mathlib.Core.Bool.{Bool, true, false, cond, not, ◌&&◌, ◌||◌, false≢true}
use native.Mathlib.Omega.{arith}
use lib.ListN.{length}
use lib.Dec.{leb, ltb, eqb}
use borrow.Author.Tests.{le-leb, ne_eqb}
use Rattle.causes.specs.Answers.{Result, made, refused}
use Rattle.causes.specs.Limits.{most_phrases, most_plate_bytes}
use Rattle.causes.specs.declared.Cause.{Cause}
use Rattle.causes.specs.declared.Cause.TheVariants.{PlateTooLong, Unused, Spelling, Book}
use Rattle.bits.specs.Bits.{bytes_bits}
use Rattle.text.specs.Parts.{all, comma, split, LF}
use Rattle.text.specs.Utf8.{ascii}
use Rattle.text.specs.Text.{Text, text_size, text_byte, is_text, is_plain}
use Rattle.text.proofs.Tests.{and_parts, and_both, in-range, all_first, all_rest, all_so}
use Rattle.text.proofs.Letters.{well-ascii}
use Rattle.text.proofs.Bytes.{text_of}
use Rattle.phrases.specs.Phrases.{Phrases, Where, in_book, in_own, nowhere, find, is_new}
use Rattle.phrases.specs.Book.{is_next, phrases_from, book_phrases}
use Rattle.transcript.specs.Statement.{input, inputs, print, printex}
use Rattle.plate.specs.Program.{Instruction, statement, goto, if_skip, Program}
use Rattle.plate.specs.Writing.{ETX, text_bits_at, text_bits, texts_bits, instruction_bits, instructions_bits, program_bits, plate_bytes}
use Rattle.plate.specs.Reading.{Place, Read, got, stopped, number}
use Rattle.plate.specs.Plate.{up_to_etx, characters, spelled, own_from, is_text_code, text_by, text, options, fields_by, instruction}
use Rattle.plate.specs.Plate.{program, filling, whole_plate, result_of, plate_program}
use Rattle.plate_before.specs.Text as before
use Rattle.plate_before.specs.Writing as before-bits
use Rattle.plate_before.specs.Plate as before-plate
use Rattle.plate_before.proofs.Kept.{Keeps, keeps_self, keeps-judged, keeps_then, keeps-behind, keeps-coded, keeps-many}

-- a refusal is no result
refused-made : {A : Type 0} {c : Cause} {k : ℕ} {a : A} → ◌≡◌ {A = Result A} (refused c k) (made a) → ⊥
refused-made e = let z : ◌≡◌ {A = ℕ} 0 1 = cc in omega arith

-- ---- a text of before is a text, and plain

module _ (b : ℕ) (h : before.text_byte b ≡ true) where
  abbrev parts : ((leb 32 b && leb b 126) ≡ true) × (not (eqb b comma) ≡ true)
  parts = and_parts (leb 32 b && leb b 126) (not (eqb b comma)) h

  byte-before : text_byte b ≡ true
  byte-before =
      let r = in-range 32 b 126 parts.0 in
      and_both (and_both (le-leb 32 b r.0) (ap not (ne_eqb b 127 (λ e. omega arith)))) parts.1

  ascii-before : ascii b ≡ true
  ascii-before = let r = in-range 32 b 126 parts.0 in le-leb b 0x7F (omega arith)

module _ (t : Text) (h : before.is_text t ≡ true) where
  pub plain-before : is_plain t ≡ true
  unfolding before.is_text
  plain-before = all_so before.text_byte ascii ascii-before t (and_parts (text_size t) (all before.text_byte t) h).1

  pub text-before : is_text t ≡ true
  unfolding before.is_text
  text-before =
      let p = and_parts (text_size t) (all before.text_byte t) h in
      text_of t p.0 (all_so before.text_byte text_byte byte-before t p.1) (well-ascii t plain-before)

-- ---- a book accepted before is accepted, with the same phrases

next-before : (earlier : List Text) (t : Text) → before.is_next earlier t ≡ true → is_next earlier t ≡ true
next-before earlier t h =
    let a = and_parts (before.is_text t && is_new [] earlier t) (ltb (length earlier) most_phrases) h in
    let b = and_parts (before.is_text t) (is_new [] earlier t) a.0 in
    and_both (and_both (text-before t b.0) b.1) a.1

phrases-before : (earlier lines ts : List Text) → before.phrases_from earlier lines ≡ made ts → phrases_from earlier lines ≡ made ts
unfolding before.phrases_from phrases_from
phrases-before earlier [] ts e = e
phrases-before earlier (t ∷ []) ts e = e
phrases-before earlier (t ∷ u ∷ us) ts e =
    go (before.is_next earlier t) (is_next earlier t) (next-before earlier t) e (phrases-before (earlier ++ (t ∷ [])) (u ∷ us) ts)
  where
    go : (v w : Bool) → (v ≡ true → w ≡ true)
        → elim v [ true ↦ before.phrases_from (earlier ++ (t ∷ [])) (u ∷ us) | false ↦ refused Book (suc (length earlier)) ] ≡ made ts
        → (before.phrases_from (earlier ++ (t ∷ [])) (u ∷ us) ≡ made ts → phrases_from (earlier ++ (t ∷ [])) (u ∷ us) ≡ made ts)
        → elim w [ true ↦ phrases_from (earlier ++ (t ∷ [])) (u ∷ us) | false ↦ refused Book (suc (length earlier)) ] ≡ made ts
    go true true n f more = more f
    go true false n f more = absurd (false≢true (n refl))
    go false w n f more = absurd (refused-made f)

pub book-before : (book : List ℕ) (ts : List Text) → before.book_phrases book ≡ made ts → book_phrases book ≡ made ts
unfolding before.book_phrases book_phrases
book-before book ts e = phrases-before [] (split LF book) ts e

-- ---- the same bits

module _ (c : Phrases) where
  pub text-bits-before : (t : Text) → is_plain t ≡ true → text_bits c t ≡ before-bits.text_bits c t
  unfolding text_bits before-bits.text_bits
  text-bits-before t h = go (find c t)
    where
      go : (w : Where) → text_bits_at c t w ≡ before-bits.text_bits_at c t w
      go nowhere = rw h
      go (in_book i) = refl
      go (in_own i) = refl

  texts-same : (ts : List Text) → all is_plain ts ≡ true → texts_bits c ts ≡ before-bits.texts_bits c ts
  unfolding texts_bits before-bits.texts_bits
  texts-same [] h = refl
  texts-same (t ∷ ts) h = rw (text-bits-before t (all_first is_plain t ts h), texts-same ts (all_rest is_plain t ts h))

  instruction-same : (i : Instruction) → before-bits.is_ascii i ≡ true → instruction_bits c i ≡ before-bits.instruction_bits c i
  instruction-same (statement (input r t)) h = rw (text-bits-before t (all_first is_plain t [] h))
  instruction-same (statement (inputs r t os)) h =
      rw (text-bits-before t (all_first is_plain t os h), texts-same os (all_rest is_plain t os h))
  instruction-same (statement (print t)) h = rw (text-bits-before t (all_first is_plain t [] h))
  instruction-same (statement (printex t)) h = rw (text-bits-before t (all_first is_plain t [] h))
  instruction-same (goto k) h = refl
  instruction-same (if_skip t k) h = refl

  instructions-same : (is : List Instruction) → all before-bits.is_ascii is ≡ true → instructions_bits c is ≡ before-bits.instructions_bits c is
  unfolding instructions_bits before-bits.instructions_bits
  instructions-same [] h = refl
  instructions-same (i ∷ is) h =
      rw (instruction-same i (all_first before-bits.is_ascii i is h), instructions-same is (all_rest before-bits.is_ascii i is h))

-- a program whose texts are all ASCII has the same bits as before
pub bytes-before : (book : List Text) (p : Program) → all before-bits.is_ascii p.instructions ≡ true
    → plate_bytes book p ≡ before-bits.plate_bytes book p
unfolding plate_bytes before-bits.plate_bytes program_bits before-bits.program_bits
bytes-before book p h = rw (instructions-same _ p.instructions h)

-- ---- the same meaning

character-before : (c : ℕ) → (eqb c ETX || before.text_byte c) ≡ true → (eqb c ETX || text_byte c) ≡ true
character-before c = go (eqb c ETX)
  where
    go : (v : Bool) → (v || before.text_byte c) ≡ true → (v || text_byte c) ≡ true
    go true h = refl
    go false h = byte-before c h

keeps-characters : (f : ℕ) → Keeps (before-plate.characters f) (characters 7 f)
unfolding before-plate.characters characters
keeps-characters zero = keeps_self _
keeps-characters (suc f) = keeps_then (keeps-judged Spelling (keeps_self (number 7)) character-before) (λ c. go c (eqb c ETX) (keeps-characters f))
  where
    go : (c : ℕ) (v : Bool) → Keeps (before-plate.characters f) (characters 7 f)
        → Keeps (up_to_etx v c (before-plate.characters f)) (up_to_etx v c (characters 7 f))
    go c true k = keeps_self _
    go c false k = keeps_then k (λ t. keeps_self _)

keeps-spelled : (book own : List Text) → Keeps (before-plate.spelled book own) (spelled 7 (is_new book own))
unfolding before-plate.spelled spelled
keeps-spelled book own =
    keeps-judged Spelling (record { kept = λ p a q e. (keeps-characters (length p.left)).kept p a q e }) (λ t h. h)

keeps-own : (book earlier : List Text) (n : ℕ) → Keeps (before-plate.own_from book earlier n) (own_from book earlier n)
unfolding before-plate.own_from own_from
keeps-own book earlier zero = keeps_self _
keeps-own book earlier (suc n) =
    keeps_then (keeps-spelled book earlier) (λ t. keeps_then (keeps-own book (earlier ++ (t ∷ [])) n) (λ ts. keeps_self _))

module _ (c : Phrases) where
  code-before : (k : ℕ) → before-plate.is_text_code c k ≡ true → is_text_code c k ≡ true
  code-before zero h = refl
  code-before (suc zero) h = refl
  code-before (suc (suc zero)) h = h
  code-before (suc (suc (suc k))) h = h

  by_before : (k : ℕ) → before-plate.is_text_code c k ≡ true → Keeps (before-plate.text_by c k) (text_by c k)
  by_before zero h = keeps-spelled c.book c.own
  by_before (suc zero) h = absurd (false≢true h)
  by_before (suc (suc k)) h = keeps_self _

  keeps-text : Keeps (before-plate.text c) (text c)
  unfolding before-plate.text text
  keeps-text = keeps-coded (number 2) Unused code-before by_before

  keeps-options : Keeps (before-plate.options c) (options c)
  unfolding before-plate.options options
  keeps-options = keeps-behind _ (λ k. keeps-many (λ j. keeps-text) (suc (suc k)))

  keeps-fields : (behind k : ℕ) → Keeps (before-plate.fields_by c behind k) (fields_by c behind k)
  keeps-fields behind zero = keeps-behind _ (λ r. keeps_then keeps-text (λ t. keeps_self _))
  keeps-fields behind (suc zero) = keeps-behind _ (λ r. keeps_then keeps-text (λ t. keeps_then keeps-options (λ os. keeps_self _)))
  keeps-fields behind (suc (suc zero)) = keeps_then keeps-text (λ t. keeps_self _)
  keeps-fields behind (suc (suc (suc zero))) = keeps_then keeps-text (λ t. keeps_self _)
  keeps-fields behind (suc (suc (suc (suc zero)))) = keeps_self _
  keeps-fields behind (suc (suc (suc (suc (suc n))))) = keeps_self _

  keeps-instruction : (behind : ℕ) → Keeps (before-plate.instruction c behind) (instruction c behind)
  unfolding before-plate.instruction instruction
  keeps-instruction behind = keeps-behind _ (keeps-fields behind)

keeps-plate : (book : List Text) → Keeps (before-plate.whole_plate book) (whole_plate book)
unfolding before-plate.whole_plate whole_plate before-plate.program program
keeps-plate book =
    keeps_then
    (keeps-behind _ (λ k. keeps_then (keeps-own book [] k) (λ own. keeps-behind _ (λ n.
    keeps_then (keeps-many (keeps-instruction (record { book = book; own = own })) n) (λ is. keeps_self _)))))
    (λ p. keeps_self (filling p))

-- a plate accepted before is accepted with the same program
module _ (book : List Text) (plate : List ℕ) (p : Program) where
  abbrev start : Place
  start = record { left = bytes_bits plate; at = 0 }

  read-before : (m : Read Program) → before-plate.whole_plate book start ≡ m → result_of m ≡ made p → result_of (whole_plate book start) ≡ made p
  read-before (got a q) i j = ap result_of ((keeps-plate book).kept start a q i) ∙ j
  read-before (stopped c n) i j = absurd (refused-made j)

  pub plate-before : before-plate.plate_program book plate ≡ made p → plate_program book plate ≡ made p
  unfolding before-plate.plate_program plate_program
  plate-before e = sized (leb (length plate) most_plate_bytes) e
    where
      sized : (v : Bool) → cond v (result_of (before-plate.whole_plate book start)) (refused PlateTooLong 0) ≡ made p
          → cond v (result_of (whole_plate book start)) (refused PlateTooLong 0) ≡ made p
      sized true f = read-before (before-plate.whole_plate book start) refl f
      sized false f = absurd (refused-made f)
