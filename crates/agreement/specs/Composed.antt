-- Demand 3 on the calls: what translating a guide and running the bytes written answers and leaves in the transcript buffer.
use Rattle.std.specs.Prelude.{ℕ, List, cond, leb, ℤ}
use Rattle.causes.specs.Answers.{Answer, wrote, ended, refusal, refusing}
use Rattle.causes.specs.declared.Cause.TheVariants.{TooShort}
use Rattle.walking.specs.Call.{walk_call}
use Rattle.running.specs.Call.{scratch_numbers}
use Rattle.translating.specs.Call.{translate_call}

-- where translate accepts, the walk's answer and transcript, or 11 where the scratch is too short; a refusal of translate stays, and the
-- transcript buffer is as it was
abbrev pub as_walked : Answer → List ℕ → List ℕ → List ℤ → ℕ → List ℕ → Answer × List ℕ
as_walked (wrote n) guide book answers scratch transcript =
    cond (leb scratch_numbers scratch) (walk_call guide book answers transcript) (refusing TooShort 0, transcript)
as_walked (ended n outcome taken steps wrong) guide book answers scratch transcript = walk_call guide book answers transcript
as_walked (refusal number place) guide book answers scratch transcript = (refusal number place, transcript)

-- a guide, translated into the plate buffer, and the bytes written run on the answers
unfoldable pub translate_then_run : List ℕ → List ℕ → List ℕ → List ℤ → ℕ → List ℕ → Answer × List ℕ
translate_then_run guide book plate answers scratch transcript =
    as_walked (translate_call guide book plate).0 guide book answers scratch transcript
