-- Plain words for a refusal: document 01, "Causes".
use Rattle.std.specs.Prelude.{ℕ, List, [], ◌∷◌, ◌++◌}
use Rattle.causes.specs.declared.Cause.{Cause}
use Rattle.causes.specs.declared.Cause.TheVariants.{
  Book,
  TooLong,
  Byte,
  Kind,
  Value,
  Phrase,
  Nesting,
  Skip,
  Instructions,
  PlateTooLong,
  TooShort,
  PlateEnds,
  Unused,
  Spelling,
  Filling,
}
use Rattle.text.specs.Quoted.{bytes}
use Rattle.text.specs.Parts.{LF}
use Rattle.decimals.specs.Number.{decimalℕ}
use Rattle.refusal_words.specs.declared.Counted.{Counted}
use Rattle.refusal_words.specs.declared.Counted.TheVariants.{Lines, Bits}
use Rattle.refusal_words.specs.declared.Place.{Place}
use Rattle.refusal_words.specs.declared.Place.TheVariants.{Nowhere, BookLine, Line, Bit}

-- "skip past n .. number, line or bit"
abbrev pub skip_place : Counted → Place
skip_place Lines = Line
skip_place Bits = Bit

-- "Causes", column returned: "phrase line", 0, "line", "bit"
abbrev pub place_of : Counted → Cause → Place
place_of counted Book = BookLine
place_of counted TooLong = Nowhere
place_of counted Byte = Line
place_of counted Kind = Line
place_of counted Value = Line
place_of counted Phrase = Line
place_of counted Nesting = Line
place_of counted Skip = skip_place counted
place_of counted Instructions = Line
place_of counted PlateTooLong = Nowhere
place_of counted TooShort = Nowhere
place_of counted PlateEnds = Bit
place_of counted Unused = Bit
place_of counted Spelling = Bit
place_of counted Filling = Bit

-- where it is
abbrev pub place_words : Place → ℕ → List ℕ
place_words Nowhere n = []
place_words BookLine n = (bytes "phrase book, line " ++ decimalℕ n) ++ bytes ": "
place_words Line n = (bytes "line " ++ decimalℕ n) ++ bytes ": "
place_words Bit n = (bytes "bit " ++ decimalℕ n) ++ bytes ": "

-- "Causes", column cause
abbrev pub cause_words : Cause → List ℕ
cause_words Book = bytes "over 256 phrases, a bad or repeated text, or no last LF"
cause_words TooLong = bytes "guide over 16,384 bytes, or listing over 327,680"
cause_words Byte = bytes "byte not allowed, or last line without LF"
cause_words Kind = bytes "unknown kind or wrong count of fields"
cause_words Value = bytes "field value outside its rule"
cause_words Phrase = bytes "phrase in a guide, late, 33rd, or repeated"
cause_words Nesting = bytes "else or fi without its if, second else, 17th level, or if left open"
cause_words Skip = bytes "skip past the last instruction"
cause_words Instructions = bytes "513th instruction"
cause_words PlateTooLong = bytes "plate over 2,953 bytes"
cause_words TooShort = bytes "output shorter than the result, or scratch too short"
cause_words PlateEnds = bytes "plate ends inside a field"
cause_words Unused = bytes "unused code, over 512 instructions, or phrase that isn't there"
cause_words Spelling =
    bytes "character not allowed, text of 0 or over 64, phrase spelled out or repeated, or 32 bits for a 16-bit constant"
cause_words Filling = bytes "a one among the filling bits, or a whole spare byte"

-- the line of words
unfoldable pub words_line : Counted → Cause → ℕ → List ℕ
words_line counted cause place = place_words (place_of counted cause) place ++ cause_words cause ++ (LF ∷ [])
