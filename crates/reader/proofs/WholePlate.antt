-- A whole plate as the code reads it: the own phrases, then the count, the instructions and the filling.
use Prim.Native.Nat.{ℕ, ◌≤◌, ◌<◌}
use mathlib.Core.Path.{◌≡◌, refl, sym, ap, ◌∙◌}
use mathlib.Core.List.{List, []}
use mathlib.Core.Bool.{true, false}
use lib.ListN.{length}
use lib.Dec.{leb}
use borrow.Author.Tests.{leb-true, le-leb, lt-leb}
use Rattle.causes.specs.Answers.{made, refused}
use Rattle.causes.specs.declared.Cause.{Cause}
use Rattle.causes.specs.declared.Cause.TheVariants.{Unused, Filling, PlateTooLong}
use Rattle.text.specs.Text.{Text}
use Rattle.phrases.specs.Phrases.{Phrases}
use Rattle.plate.specs.Program.{Instruction, Program}
use Rattle.plate.specs.Reading.{Place, Read, got, stopped, Reader, number, judged, return, onward, ◌>>=◌, many}
use Rattle.plate.specs.Plate.{own_count, own_from, instruction, program, filling, whole_plate, result_of, plate_program}
use Rattle.plate.proofs.Readers.{gives-number, gives-judged}
use Rattle.fields.specs.Places.{place_at, measured, values_of}
use Rattle.fields.proofs.Onward.{then-got, then-stopped, got-good}
use Rattle.output.specs.Pour.{up_to}
use Rattle.listing.specs.LineSizes.{lines_room}
use Rattle.plate_texts.proofs.Ended.{measured-some, measured-stopped, measured-got}
use Rattle.reader.specs.Holding.{There, instructions_at}
use Rattle.reader.specs.Own.{own_phrases}
use Rattle.reader.specs.Filled.{is_filling}
use Rattle.reader.specs.Whole.{behind_own, rest_of}

-- ---- behind the own phrases

pub few-instructions : (p q : Place) (n : ℕ) → got n q ≡ judged (number 10) (λ n. leb n 512) Unused p → n ≤ 512
few-instructions p q n e = leb-true n 512 (got-good p (gives-judged (λ n. leb n 512) Unused (gives-number 10)) e).1

-- the room of instructions that were read
abbrev pub rooms_of : List Instruction → ℕ
rooms_of is = up_to (lines_room is)

module _ (plate : List ℕ) (c : Phrases) (at : ℕ) where
  -- the program with the instructions that stand from a bit on
  abbrev holding : ℕ → ℕ → Program
  holding n bit = record { own = c.own; instructions = instructions_at plate c n bit }

  rest-stopped : {cause : Cause} {b : ℕ} → stopped cause b ≡ behind_own c (place_at plate at)
      → refused cause b ≡ result_of (rest_of c (place_at plate at))
  unfolding rest_of
  rest-stopped e = ap result_of (then-stopped (behind_own c) filling (place_at plate at) e)

  pub count-stopped : {cause : Cause} {b : ℕ} → stopped cause b ≡ judged (number 10) (λ n. leb n 512) Unused (place_at plate at)
      → refused cause b ≡ result_of (rest_of c (place_at plate at))
  unfolding behind_own
  count-stopped e = rest-stopped (then-stopped _ _ (place_at plate at) e)

  module _ (n bit : ℕ) (e : got n (place_at plate bit) ≡ judged (number 10) (λ n. leb n 512) Unused (place_at plate at)) where
    pub instructions-stopped : {cause : Cause} {b : ℕ} → stopped cause b ≡ measured rooms_of (many (instruction c) n (place_at plate bit))
        → refused cause b ≡ result_of (rest_of c (place_at plate at))
    unfolding behind_own
    instructions-stopped h =
        rest-stopped
        (then-stopped (many (instruction c) n) _ (place_at plate bit) (measured-stopped rooms_of (many (instruction c) n (place_at plate bit)) h)
        ∙ then-got _ _ (place_at plate at) e)

    module _ (v end : ℕ) (h : got v (place_at plate end) ≡ measured rooms_of (many (instruction c) n (place_at plate bit))) where
      all_read : got (instructions_at plate c n bit) (place_at plate end) ≡ many (instruction c) n (place_at plate bit)
      unfolding instructions_at
      all_read = measured-got rooms_of v (place_at plate end) (many (instruction c) n (place_at plate bit)) h

      pub instructions-counted : v ≡ rooms_of (instructions_at plate c n bit)
      instructions-counted =
          let t = measured-some rooms_of v (place_at plate end) (many (instruction c) n (place_at plate bit)) h in
          t.2 ∙ ap (λ m. rooms_of (values_of m)) (t.1 ∙ sym all_read)

      pub instructions-there : There (instruction c) plate n bit (instructions_at plate c n bit)
      instructions-there = record { end = place_at plate end; read = sym all_read }

      filled-rest : filling (holding n bit) (place_at plate end) ≡ rest_of c (place_at plate at)
      unfolding rest_of behind_own return
      filled-rest =
          then-got (behind_own c) filling (place_at plate at)
          (then-got (many (instruction c) n) _ (place_at plate bit) all_read ∙ then-got _ _ (place_at plate at) e)

      pub rest-filled : is_filling (place_at plate end).left ≡ true → made (holding n bit) ≡ result_of (rest_of c (place_at plate at))
      unfolding filling
      rest-filled t = ap result_of (rw t at filled-rest)

      pub rest-not-filled : is_filling (place_at plate end).left ≡ false → refused Filling end ≡ result_of (rest_of c (place_at plate at))
      unfolding filling place_at
      rest-not-filled t = ap result_of (rw t at filled-rest)

-- ---- the whole

module _ (book : List Text) (plate : List ℕ) where
  pub plate-long : 2953 < length plate → refused PlateTooLong 0 ≡ plate_program book plate
  unfolding plate_program
  plate-long h = rw (lt-leb (length plate) 2953 h)

  module _ (h : length plate ≤ 2953) where
    plate-whole : result_of (whole_plate book (place_at plate 0)) ≡ plate_program book plate
    unfolding plate_program place_at
    plate-whole = rw (le-leb (length plate) 2953 h)

    -- the own phrases first
    own_first : (own_phrases book >>= λ own. rest_of (record { book = book; own = own })) (place_at plate 0) ≡ whole_plate book (place_at plate 0)
    unfolding own_phrases rest_of behind_own whole_plate program ◌>>=◌
    own_first = go (own_count (place_at plate 0))
      where
        behind : List Text → Reader Program
        behind own = behind_own (record { book = book; own = own })

        inner : (m : Read (List Text)) → onward m (λ own. behind own >>= filling) ≡ onward (onward m behind) filling
        inner (got own q) = refl
        inner (stopped cause bit) = refl

        go : (m : Read ℕ) → onward (onward m (own_from book [])) (λ own. behind own >>= filling)
            ≡ onward (onward m (λ k. own_from book [] k >>= behind)) filling
        go (got k q) = inner (own_from book [] k q)
        go (stopped cause bit) = refl

    pub own-refused : {cause : Cause} {b : ℕ} → stopped cause b ≡ own_phrases book (place_at plate 0)
        → refused cause b ≡ plate_program book plate
    own-refused e = ap result_of (then-stopped (own_phrases book) _ (place_at plate 0) e ∙ own_first) ∙ plate-whole

    pub own-got : (own : List Text) (q : Place) → got own q ≡ own_phrases book (place_at plate 0)
        → result_of (rest_of (record { book = book; own = own }) q) ≡ plate_program book plate
    own-got own q e =
        ap result_of (then-got (own_phrases book) (λ own. rest_of (record { book = book; own = own })) (place_at plate 0) e ∙ own_first)
        ∙ plate-whole
