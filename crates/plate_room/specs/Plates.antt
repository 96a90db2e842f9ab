-- The plate of a program in a lent buffer, and the room that it takes there.
use Rattle.std.specs.Prelude.{ℕ, ◌/◌, List, Bool, cond, length, leb, Result, Ok, Err}
use Rattle.causes.specs.Answers as answers
use Rattle.causes.specs.Answers.{made, refused, ◌>>=◌, Answer, output, lent}
use Rattle.causes.specs.Limits.{most_plate_bytes}
use Rattle.causes.specs.declared.Cause.TheVariants.{PlateTooLong, TooShort}
use Rattle.causes.specs.declared.Refusal.{Refusal}
use Rattle.bits.specs.Bits.{bytes_of}
use Rattle.text.specs.Text.{Text}
use Rattle.plate.specs.Program.{Program}
use Rattle.plate.specs.Writing.{plate_bytes, plate_sized}

-- the plate of a program in a lent buffer: 10, then 11
abbrev pub lent_plate : List Text → Program → List ℕ → Answer × List ℕ
lent_plate book p buffer = lent (plate_sized (plate_bytes book p) >>= λ bs. made (output bs)) buffer

-- how many bytes a plate of so many bits takes in a lent buffer of so many bytes; "plate over 2,953 bytes": 10, "lent output shorter than
-- the result": 11
unfoldable pub plate_room : ℕ → ℕ → answers.Result ℕ
plate_room bits bytes =
    cond (leb (bits / 8) most_plate_bytes) (cond (leb (bits / 8) bytes) (made (bits / 8)) (refused TooShort 0)) (refused PlateTooLong 0)

-- of the code that looks for the room
abbrev pub room_answer : answers.Result ℕ → Result ℕ Refusal
room_answer (made n) = Ok n
room_answer (refused cause place) = Err (record { cause = cause; place = place })

-- the plate of the first of these bits, so many, in a lent buffer: 10, then 11
unfoldable pub lent_bits : List Bool → ℕ → List ℕ → Answer × List ℕ
lent_bits bs bits buffer = lent (plate_room bits (length buffer) >>= λ n. made (output (bytes_of n bs))) buffer
