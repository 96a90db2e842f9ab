-- A row of the table of cases: what a call gives by the definitions, and as worked by hand. With short names for texts, plates and buffers.
use Rattle.std.specs.Prelude.{ℕ, zero, suc, ◌+◌, ◌*◌, ◌-◌, ◌/◌, ◌%◌, List, [], ◌∷◌, ◌++◌, Bool, true, false, cond, length, replicate, eqb, leb, ltb, ℤ}
use Prim.Native.Char.{code}
use Prim.Native.String.{String, [] as nothing, ◌∷◌ as ◌then◌}
use Rattle.causes.specs.Answers.{Result, made, refused, Answer, wrote, ended, refusal}
use Rattle.bits.specs.Bits.{pack}
use Rattle.text.specs.Parts.{LF}
use Rattle.text.specs.Quoted.{bytes}
use Rattle.decimals.specs.Number.{decimalℕ}
use Rattle.walking.specs.Call.{walk_call}
use Rattle.running.specs.Call.{scratch_numbers, run_call}
use Rattle.listing.specs.Calls.{read_plate_call}
use Rattle.translating.specs.Call.{translation, translate_call}

pub data Row : Type 0 where
  -- a call's answer and buffer
  ◌gives◌ : Answer × List ℕ → Answer × List ℕ → Row
  -- a count
  ◌counts◌ : ℕ → ℕ → Row
  -- a printed text
  ◌prints◌ : List ℕ → List ℕ → Row

infix 10 ◌gives◌
infix 10 ◌counts◌
infix 10 ◌prints◌
pub data Worth : Type 0 where
  returned : Answer × List ℕ → Worth
  counted : ℕ → Worth
  text : List ℕ → Worth

unfoldable pub computed : List Row → List Worth
computed [] = []
computed ((c gives w) ∷ rows) = returned c ∷ computed rows
computed ((c counts w) ∷ rows) = counted c ∷ computed rows
computed ((c prints w) ∷ rows) = text c ∷ computed rows

unfoldable pub worked : List Row → List Worth
worked [] = []
worked ((c gives w) ∷ rows) = returned w ∷ worked rows
worked ((c counts w) ∷ rows) = counted w ∷ worked rows
worked ((c prints w) ∷ rows) = text w ∷ worked rows

-- ---- bytes by other names

-- `0` to `9` are 48 to 57, `A` to `F` 65 to 70
abbrev pub hex_digit : ℕ → ℕ
hex_digit c = cond (leb 65 c) (c - 55) (c - 48)

-- bytes as pairs of hexadecimal digits
unfoldable pub hex : String → List ℕ
hex nothing = []
hex (a then nothing) = []
hex (a then b then s) = (hex_digit (code a) * 16 + hex_digit (code b)) ∷ hex s

-- RFC 3629, section 3: the bytes of a character by its number, 7 bits in one byte, 11 in two, 16 in three, 21 in four
abbrev pub encoded : ℕ → List ℕ
encoded c =
    cond (ltb c 0x80) (c ∷ [])
    (cond (ltb c 0x800) ((0xC0 + c / 64) ∷ (0x80 + c % 64) ∷ [])
    (cond (ltb c 0x10000) ((0xE0 + c / 4096) ∷ (0x80 + c / 64 % 64) ∷ (0x80 + c % 64) ∷ [])
    ((0xF0 + c / 262144) ∷ (0x80 + c / 4096 % 64) ∷ (0x80 + c / 64 % 64) ∷ (0x80 + c % 64) ∷ [])))

-- a quoted text in UTF-8
unfoldable pub utf8 : String → List ℕ
utf8 nothing = []
utf8 (c then s) = encoded (code c) ++ utf8 s

-- bits as `0` and `1`; anything else parts the fields
unfoldable pub bits_in : String → List Bool
bits_in nothing = []
bits_in (c then s) = cond (eqb (code c) 48) (false ∷ bits_in s) (cond (eqb (code c) 49) (true ∷ bits_in s) (bits_in s))

-- the plate of these bits, its last byte filled
abbrev pub plate : String → List ℕ
plate s = pack (bits_in s)

module _ {A : Type 0} where
  -- n copies, one behind the other
  unfoldable pub times : ℕ → List A → List A
  times zero s = []
  times (suc n) s = s ++ times n s

-- a print line with a text of n bytes
abbrev pub print_line : ℕ → List ℕ
print_line n = bytes "print," ++ replicate n 97 ++ bytes "\n"

-- n lines, with the numbers from 0
unfoldable pub numbered : ℕ → List ℕ
numbered zero = []
numbered (suc n) = numbered n ++ decimalℕ n ++ (LF ∷ [])

-- what a lent buffer holds before the call
abbrev pub untouched : ℕ → List ℕ
untouched n = replicate n 170

-- ---- rows of one kind

-- a refusal, with the buffer as it was
abbrev pub refuses : (List ℕ → Answer × List ℕ) → ℕ → ℕ → List Row
refuses call number place = (call (untouched 2) gives (refusal number place, untouched 2)) ∷ []

-- a result, with the buffer's other bytes as they were
abbrev pub writes : (List ℕ → Answer × List ℕ) → List ℕ → List Row
writes call bs = (call (untouched (length bs + 2)) gives (wrote (length bs), bs ++ untouched 2)) ∷ []

-- a buffer that is just long enough, and one that is a byte too short
abbrev pub fits : (List ℕ → Answer × List ℕ) → List ℕ → Answer → List Row
fits call bs answer =
    (call (untouched (length bs)) gives (answer, bs))
    ∷ (call (untouched (length bs - 1)) gives (refusal 11 0, untouched (length bs - 1)))
    ∷ []

-- a guide that both the translator and the walker refuse
abbrev pub guide_refused : List ℕ → List ℕ → ℕ → ℕ → List Row
guide_refused guide book number place =
    refuses (translate_call guide book) number place ++ refuses (walk_call guide book []) number place

-- a plate that both the converter and the runner refuse
abbrev pub plate_refused : List ℕ → List ℕ → ℕ → ℕ → List Row
plate_refused plate book number place =
    refuses (read_plate_call plate book) number place ++ refuses (run_call plate book [] scratch_numbers) number place

abbrev pub bytes_made : Result (List ℕ) → List ℕ
bytes_made (made bs) = bs
bytes_made (refused cause place) = []

-- a walk or a run, with the buffer's other bytes as they were: the transcript, the outcome, the answers taken, the steps and the wrong
-- answers to the present question
abbrev pub leaves : (List ℕ → Answer × List ℕ) → List ℕ → ℕ → ℕ → ℕ → ℕ → List Row
leaves call transcript outcome taken steps wrong =
    (call (untouched (length transcript + 2))
    gives (ended (length transcript) outcome taken steps wrong, transcript ++ untouched 2))
    ∷ []

-- with no wrong answer
abbrev pub ends : (List ℕ → Answer × List ℕ) → List ℕ → ℕ → ℕ → ℕ → List Row
ends call transcript outcome taken steps = leaves call transcript outcome taken steps 0

-- a guide walked, and its plate run, with no book
abbrev pub tries : List ℕ → List ℤ → List ℕ → ℕ → ℕ → ℕ → ℕ → List Row
tries guide answers transcript outcome taken steps wrong =
    leaves (walk_call guide [] answers) transcript outcome taken steps wrong
    ++ leaves (run_call (bytes_made (translation [] guide)) [] answers scratch_numbers) transcript outcome taken steps wrong

-- with no wrong answer
abbrev pub meets : List ℕ → List ℤ → List ℕ → ℕ → ℕ → ℕ → List Row
meets guide answers transcript outcome taken steps = tries guide answers transcript outcome taken steps 0
