-- Demand 3: "it waits exactly when the walk writes a question's line and finds no answer left for it".
use Rattle.std.specs.Prelude.{◌≡◌, List, [], ◌∷◌, Bool, true, false}
use Rattle.transcript.specs.State.{TranscriptLine, asked, offered, answered, shown, ruled, State}

-- a Q or C line
abbrev pub is_question : TranscriptLine → Bool
is_question (asked t) = true
is_question (offered t options) = true
is_question (answered a) = false
is_question (shown t) = false
is_question (ruled t) = false

-- whether the last line is a question's
unfoldable pub ends_asking : List TranscriptLine → Bool
ends_asking [] = false
ends_asking (l ∷ []) = is_question l
ends_asking (l ∷ m ∷ ls) = ends_asking (m ∷ ls)

-- the last line written is a question's, and no answer is left for it
pub record Unanswered (s : State) : Type 0 where
  pub asks : ends_asking s.transcript ≡ true
  pub none : s.left ≡ []
