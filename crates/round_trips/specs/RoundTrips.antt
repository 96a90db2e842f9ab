-- Demand 2 on the calls: what a listing is after it was written as a plate and read back, and a plate after it was read and written again.
use Rattle.std.specs.Prelude.{ℕ, List}
use Rattle.causes.specs.Answers.{made, Answer, wrote, ended, refusal, output, lent}
use Rattle.listing.specs.Calls.{write_plate_call, read_plate_call}

-- where the first call accepts, the text itself in the second buffer, or 11 where that is shorter; a refusal of the first call stays,
-- and the second buffer is as it was
abbrev pub same_again : Answer → List ℕ → List ℕ → Answer × List ℕ
same_again (wrote n) text buffer = lent (made (output text)) buffer
same_again (ended n outcome taken steps wrong) text buffer = lent (made (output text)) buffer
same_again (refusal number place) text buffer = (refusal number place, buffer)

-- a listing, written as a plate into the first buffer and read back into the second
unfoldable pub write_then_read : List ℕ → List ℕ → List ℕ → List ℕ → Answer × List ℕ
write_then_read listing book plate again = same_again (write_plate_call listing book plate).0 listing again

-- a plate, read as a listing into the first buffer and written again into the second
unfoldable pub read_then_write : List ℕ → List ℕ → List ℕ → List ℕ → Answer × List ℕ
read_then_write plate book listing again = same_again (read_plate_call plate book listing).0 plate again
