-- Which program a plate's contents are, with the phrases of the book and the own ones.
use Rattle.std.specs.Prelude.{ℕ, ◌≤◌, ◌≡◌, List, Ok, Err, length}
use Rattle.std.specs.Prelude as prelude
use Rattle.causes.specs.declared.Refusal.{Refusal}
use Rattle.causes.specs.Answers.{Result, made, refused}
use Rattle.causes.specs.Limits.{most_instructions, most_plate_bytes}
use Rattle.output.specs.Pour.{up_to}
use Rattle.phrases.specs.Phrases.{Phrases}
use Rattle.phrases.specs.Lookup.{phrases_in}
use Rattle.plate.specs.Program.{Instruction, Program}
use Rattle.plate.specs.Reading.{Place, Reader, got, many}
use Rattle.plate.specs.Plate.{instruction}
use Rattle.fields.specs.Places.{place_at, values_of}
use Rattle.listing.specs.LineSizes.{lines_room}
use Rattle.reader.specs.declared.Contents.{Contents}

-- the values that stand one behind the other from a bit on; each reader is told how many come behind it
pub record There {A : Type 0} (r : ℕ → Reader A) (plate : List ℕ) (n bit : ℕ) (xs : List A) : Type 0 where
  pub end : Place
  pub read : many r n (place_at plate bit) ≡ got xs end

-- the n instructions from a bit on
unfoldable pub instructions_at : List ℕ → Phrases → ℕ → ℕ → List Instruction
instructions_at plate c n bit = values_of (many (instruction c) n (place_at plate bit))

-- the program of a plate's contents, with the phrases that its texts are looked up among
unfoldable pub program_at : List ℕ → Phrases → Contents → Program
program_at plate p c = record { own = p.own; instructions = instructions_at plate p c.instructions c.bit }

-- what the code read behind the own phrases
abbrev pub rest_read : List ℕ → Phrases → prelude.Result Contents Refusal → Result Program
rest_read plate p (Ok c) = made (program_at plate p c)
rest_read plate p (Err r) = refused r.cause r.place

-- a whole plate that the code read
abbrev pub program_read : List ℕ → List ℕ → List ℕ → prelude.Result Contents Refusal → Result Program
program_read plate book own (Ok c) = made (program_at plate (phrases_in book own c.own) c)
program_read plate book own (Err r) = refused r.cause r.place

-- contents of a short plate whose instructions are all there, with the room of their lines
pub record Stands (plate : List ℕ) (p : Phrases) (c : Contents) : Type 0 where
  pub short : length plate ≤ most_plate_bytes
  pub few : c.instructions ≤ most_instructions
  pub counted : c.room ≡ up_to (lines_room (instructions_at plate p c.instructions c.bit))
  pub whole : There (instruction p) plate c.instructions c.bit (instructions_at plate p c.instructions c.bit)
