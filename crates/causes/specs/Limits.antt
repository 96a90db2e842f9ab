-- The limits of documents 01 and 02, each once, with the cause of what goes past it where there is one.
use Rattle.std.specs.Prelude.{ℕ}

-- "up to 256 different texts": 1
abbrev pub most_phrases : ℕ
most_phrases = 256

-- "A guide has at most 16,384 bytes.": 2
abbrev pub most_guide_bytes : ℕ
most_guide_bytes = 16384

-- a listing has "at most 327,680 bytes": 2
abbrev pub most_listing_bytes : ℕ
most_listing_bytes = 327680

-- own phrases: "At most 32, before all other kinds": 6
abbrev pub most_own : ℕ
most_own = 32

-- "At most 16 levels.": 7
abbrev pub most_levels : ℕ
most_levels = 16

-- "At most 512 instructions.": 9; "n over 512": 13
abbrev pub most_instructions : ℕ
most_instructions = 512

-- "At most 2,953 bytes.": 10
abbrev pub most_plate_bytes : ℕ
most_plate_bytes = 2953

-- the bits of the longest plate
abbrev pub most_plate_bits : ℕ
most_plate_bits = 23624

-- document 02, c): "two more tries": so many wrong answers to a question are taken
abbrev pub more_tries : ℕ
more_tries = 2

-- no transcript is longer: 512 inputs of 1,793 bytes each, with its C line three times, two wrong answers and an option's place
abbrev pub most_transcript_bytes : ℕ
most_transcript_bytes = 918016

-- "SKIP 0 to 511", which are 9 bits: 5
abbrev pub skips : ℕ
skips = 512
